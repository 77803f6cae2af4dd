use Rattle.std.proofs.Common.{◌≡◌, length, refl, sym, subst, arith}
use Rattle.tl_check_verdict.specs.Valid.{AreCounts, IsTree}
use Rattle.tl_check.specs.Keeping.Parts.{Holds, UnlessMemory}
use Rattle.tl_check_sides.proofs.Lent.{list_is}
use Rattle.tl_check.proofs.Prefixes.{first_rounds, first_walks, all_rounds, all_walks, as_many, round_taken, walk_taken, has_some}
use Rattle.tl_check.proofs.Halting.{halted, ended, allowed_rounds, concluded_shows}
use Rattle.tl_check.proofs.Meeting.{halted_meets, meets_so, rounds_planar, walks_planar}
use Rattle.tl_check.proofs.Searched.{answered_within}
use Rattle.tl_check.specs.Keeping.Answers.{answer_of}
use Rattle.tl_check.proofs.in_memory.check_whole.Goals as goal

pub loop-round-init : goal.loop-round-init
loop-round-init c = record {
  holds = c.in-Ok.ensures.holds (first_rounds c.args.cert.now 0) (sym c.counts.ensures) (sym c.tree.ensures.tree) refl refl;
  takes = c.in-Ok.ensures.rounds;
  searched = c.in-Ok.ensures.searched;
  behind = c.in-Ok.ensures.behind;
}

pub take_round-state-requires-clause-some : goal.take_round-state-requires-clause-some
take_round-state-requires-clause-some c =
    let vs = c.rounds-round-items.result.now in
    let i = c.loop-round.round-index in
    let test = c.loop-round-test.true in
    let many : length vs ≡ length c.args.cert.now.rounds = as_many vs c.args.cert.now.rounds c.rounds-round-items.ensures.rounds in
    has_some c.args.cert.now.rounds i c.deref.result.now c.rounds-round-items.ensures.each
    (list_is vs c.args.cert.now.rounds i c.round-item.result c.deref.result.now c.rounds-round-items.ensures.rounds test c.round-item.is c.deref.ensures.value)
    (omega (arith, many, test))

pub loop-round-preserved : goal.loop-round-preserved
loop-round-preserved c =
    let vs = c.rounds-round-items.result.now in
    let i = c.loop-round.round-index in
    let test = c.loop-round-test.true in
    let many : length vs ≡ length c.args.cert.now.rounds = as_many vs c.args.cert.now.rounds c.rounds-round-items.ensures.rounds in
    record {
      holds = round_taken c.args.map.now c.args.cert.now i c.deref.result.now c.take_round-state.result
          (list_is vs c.args.cert.now.rounds i c.round-item.result c.deref.result.now c.rounds-round-items.ensures.rounds test c.round-item.is c.deref.ensures.value)
          (omega (arith, many, test))
          (c.take_round-state.ensures.holds (first_rounds c.args.cert.now i) c.loop-round.invariant.holds);
      takes = c.take_round-state.ensures.takes;
      searched = c.take_round-state.ensures.searched c.args.budget c.loop-round.invariant.searched;
      behind = c.take_round-state.ensures.behind c.loop-round.invariant.behind;
    }

pub loop-walk-init : goal.loop-walk-init
loop-walk-init c =
    let vs = c.rounds-round-items.result.now in
    let i = c.loop-round.round-index in
    let test = c.loop-round-test.false in
    let many : length vs ≡ length c.args.cert.now.rounds = as_many vs c.args.cert.now.rounds c.rounds-round-items.ensures.rounds in
    record {
      holds = subst (λ d. Holds c.args.map.now d c.in-Ok-end_rounds.state) (all_rounds c.args.cert.now i (omega (arith, many, test)))
          (c.in-Ok-end_rounds.ensures.holds (first_rounds c.args.cert.now i) c.loop-round.invariant.holds);
      takes = c.in-Ok-end_rounds.ensures.takes;
      searched = c.in-Ok-end_rounds.ensures.searched c.args.budget c.loop-round.invariant.searched;
      behind = c.in-Ok-end_rounds.ensures.behind c.loop-round.invariant.behind;
    }

pub take_walk-state-requires-clause-some : goal.take_walk-state-requires-clause-some
take_walk-state-requires-clause-some c =
    let vs = c.walks-walk-items.result.now in
    let i = c.loop-walk.walk-index in
    let test = c.loop-walk-test.true in
    let many : length vs ≡ length c.args.cert.now.walks = as_many vs c.args.cert.now.walks c.walks-walk-items.ensures.walks in
    has_some c.args.cert.now.walks i c.deref-in-loop-walk.result.now c.walks-walk-items.ensures.each
    (list_is vs c.args.cert.now.walks i c.walk-item.result c.deref-in-loop-walk.result.now c.walks-walk-items.ensures.walks test c.walk-item.is c.deref-in-loop-walk.ensures.value)
    (omega (arith, many, test))

pub loop-walk-preserved : goal.loop-walk-preserved
loop-walk-preserved c =
    let vs = c.walks-walk-items.result.now in
    let i = c.loop-walk.walk-index in
    let test = c.loop-walk-test.true in
    let many : length vs ≡ length c.args.cert.now.walks = as_many vs c.args.cert.now.walks c.walks-walk-items.ensures.walks in
    record {
      holds = walk_taken c.args.map.now c.args.cert.now i c.deref-in-loop-walk.result.now c.take_walk-state.result
          (list_is vs c.args.cert.now.walks i c.walk-item.result c.deref-in-loop-walk.result.now c.walks-walk-items.ensures.walks test c.walk-item.is c.deref-in-loop-walk.ensures.value)
          (omega (arith, many, test))
          (c.take_walk-state.ensures.holds (first_walks c.args.cert.now i) c.loop-walk.invariant.holds);
      takes = c.take_walk-state.ensures.takes;
      searched = c.take_walk-state.ensures.searched c.args.budget c.loop-walk.invariant.searched;
      behind = c.take_walk-state.ensures.behind c.loop-walk.invariant.behind;
    }

pub returns-in-Err-clause-shows : goal.returns-in-Err-clause-shows
returns-in-Err-clause-shows c = rw c.answer.ensures (halted c.args.map.now c.args.cert.now c.args.budget c.in-Err.halt c.in-Err.ensures.halts
    (subst (λ tree. UnlessMemory c.in-Err.halt (AreCounts c.args.map.now c.args.cert.now.counts × IsTree c.args.map.now tree)) c.tree.ensures.tree
    (subst (λ counts. UnlessMemory c.in-Err.halt (AreCounts c.args.map.now counts × IsTree c.args.map.now c.tree.result.now)) c.counts.ensures c.in-Err.ensures.tree)))

pub returns-in-Err-end_rounds-clause-shows : goal.returns-in-Err-end_rounds-clause-shows
returns-in-Err-end_rounds-clause-shows c = rw c.answer-in-Err-end_rounds.ensures (ended c.args.map.now c.args.cert.now c.args.budget c.in-Err-end_rounds.halt c.in-Err-end_rounds.ensures.halts
    (allowed_rounds c.args.map.now c.args.cert.now c.loop-round.round-index (c.in-Err-end_rounds.ensures.allowed (first_rounds c.args.cert.now c.loop-round.round-index) c.loop-round.invariant.holds)))

pub returns-in-Err-clause-meets : goal.returns-in-Err-clause-meets
returns-in-Err-clause-meets c = rw c.answer.ensures (halted_meets c.in-Err.halt _ _ c.in-Err.ensures.meets (λ planar allows. planar))

pub returns-in-Err-end_rounds-clause-meets : goal.returns-in-Err-end_rounds-clause-meets
returns-in-Err-end_rounds-clause-meets c = rw c.answer-in-Err-end_rounds.ensures (meets_so (answer_of c.in-Err-end_rounds.halt) _
    (rounds_planar c.args.map.now c.args.cert.now c.loop-round.round-index _ c.loop-round.invariant.holds c.loop-round.invariant.behind))

pub take_counted-requires-clause-whole : goal.take_counted-requires-clause-whole
take_counted-requires-clause-whole c = rw c.tree.ensures.tree c.tree.ensures.preorder

pub take_round-state-requires-clause-held : goal.take_round-state-requires-clause-held
take_round-state-requires-clause-held c = (first_rounds c.args.cert.now c.loop-round.round-index, c.loop-round.invariant.holds)

pub take_round-state-requires-clause-takes : goal.take_round-state-requires-clause-takes
take_round-state-requires-clause-takes c = c.loop-round.invariant.takes

pub end_rounds-requires : goal.end_rounds-requires
end_rounds-requires c = record { held = (first_rounds c.args.cert.now c.loop-round.round-index, c.loop-round.invariant.holds) }

pub take_walk-state-requires-clause-held : goal.take_walk-state-requires-clause-held
take_walk-state-requires-clause-held c = (first_walks c.args.cert.now c.loop-walk.walk-index, c.loop-walk.invariant.holds)

pub take_walk-state-requires-clause-takes : goal.take_walk-state-requires-clause-takes
take_walk-state-requires-clause-takes c = c.loop-walk.invariant.takes

pub conclude-requires : goal.conclude-requires
conclude-requires c = record { held = (first_walks c.args.cert.now c.loop-walk.walk-index, c.loop-walk.invariant.holds) }

pub returns-clause-shows : goal.returns-clause-shows
returns-clause-shows c =
    let vs = c.walks-walk-items.result.now in
    let i = c.loop-walk.walk-index in
    let test = c.loop-walk-test.false in
    let many : length vs ≡ length c.args.cert.now.walks = as_many vs c.args.cert.now.walks c.walks-walk-items.ensures.walks in
    let holds = subst (λ d. Holds c.args.map.now d c.loop-walk.state) (all_walks c.args.cert.now i (omega (arith, many, test))) c.loop-walk.invariant.holds in
    concluded_shows c.args.map.now c.args.cert.now c.args.budget c.loop-walk.state c.conclude.result holds c.loop-walk.invariant.searched c.loop-walk.invariant.behind c.conclude.ensures.concluded

pub returns-clause-meets : goal.returns-clause-meets
returns-clause-meets c = meets_so c.conclude.result _ (walks_planar c.args.map.now c.args.cert.now c.loop-walk.walk-index _ c.loop-walk.invariant.holds c.loop-walk.invariant.behind)

pub returns-in-Err-clause-told : goal.returns-in-Err-clause-told
returns-in-Err-clause-told c = rw c.answer.ensures (answered_within c.in-Err.halt _)

pub returns-in-Err-end_rounds-clause-told : goal.returns-in-Err-end_rounds-clause-told
returns-in-Err-end_rounds-clause-told c = rw c.answer-in-Err-end_rounds.ensures (answered_within c.in-Err-end_rounds.halt _)
