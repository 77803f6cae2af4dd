use Rattle.std.proofs.Common.{◌≡◌, length, ◌∙◌, inl, inr, sym, arith}
use Rattle.std.proofs.lemmas.List.{get_or_default}
use Rattle.std.proofs.lemmas.Result.{err_from_is_err_and}
use Rattle.tl_map_rules.proofs.ListingLemmas.RunLemmas.{nothing, runs_none, runs_more, runs_quiet, runs_again, below_first}
use Rattle.tl_map_rules.proofs.listing.runs.push_shapes.Goals as goal
use Rattle.tl_map_rules.proofs.listing.runs.push_shapes.Goals.{then-place-eq0+in-Some+in_ok-push, then-place-eq0-via-then-place-eq0, then-place-eq0-via-else-place-eq0+then-shapes-place, then-place-eq0+in_default, else-place-eq0+else-shapes-place}

pub loop-place-init : goal.loop-place-init
loop-place-init c = runs_none c.args.shapes.now c.args.faults.now.items

pub run_at-requires-clause-below : goal.run_at-requires-clause-below
run_at-requires-clause-below c = below_first c.args.shapes.now c.loop-place.place _ _ c.requires c.loop-place-test.true (elim c.then-place-eq0.branch [
  | then-place-eq0-via-then-place-eq0 w ↦ inl w.if-place-eq0.true
  | then-place-eq0-via-else-place-eq0+then-shapes-place w ↦ inr w.if-shapes-place.true
])

pub loop-place-preserved : goal.loop-place-preserved
loop-place-preserved c = elim c.if-place-eq0.branch [
  | then-place-eq0+in-Some+in_ok-push w ↦ rw (w.faults-is, w.in_ok-push.ensures.items) (runs_more c.args.shapes.now c.loop-place.place nothing w.in-Some.fault c.args.faults.now.items c.loop-place.faults.items c.loop-place-test.true (rw w.run_at.ensures at (sym w.fault_of_run.ensures ∙ w.in-Some.is)) c.loop-place.invariant)
  | then-place-eq0+in_default w ↦ rw w.faults-is (runs_quiet c.args.shapes.now c.loop-place.place nothing c.args.faults.now.items c.loop-place.faults.items c.loop-place-test.true (rw w.run_at.ensures at (sym w.fault_of_run.ensures ∙ w.in_default.is)) c.loop-place.invariant)
  | else-place-eq0+else-shapes-place w ↦ rw w.faults-is (runs_again c.args.shapes.now c.loop-place.place _ _ c.args.faults.now.items c.loop-place.faults.items (omega (arith, w.if-place-eq0.false)) c.loop-place-test.true w.if-shapes-place.false c.loop-place.invariant)
]

pub run_at-requires-clause-order : goal.run_at-requires-clause-order
run_at-requires-clause-order c = c.requires

pub run_at-requires-clause-within : goal.run_at-requires-clause-within
run_at-requires-clause-within c = c.loop-place.auto.place-end

pub run_at-requires-clause-from : goal.run_at-requires-clause-from
run_at-requires-clause-from c = λ d lt. rw (get_or_default c.args.shapes.now c.loop-place.place nothing d lt) (omega arith)

pub returns : goal.returns
returns c =
    let all : c.loop-place.place ≡ length c.args.shapes.now = omega (arith, c.loop-place.auto.place-end, c.loop-place-test.false) in
    rw all at c.loop-place.invariant

pub returns-in_err-push : goal.returns-in_err-push
returns-in_err-push c = let p = err_from_is_err_and c.from_residual.result c.from_residual.ensures.1 in rw p.1 tt
