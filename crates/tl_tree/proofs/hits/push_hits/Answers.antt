use Rattle.std.proofs.Common.{◌≡◌, ℕ, List, ◌++◌, ◌∷◌, [], cond, not, is_ok, true, get_or, take, ◌+◌, refl, ap, sym, ◌∙◌, subst, arith}
use Rattle.std.proofs.lemmas.Bool.{false≢true}
use Rattle.std.proofs.lemmas.List.{take_all}
use Rattle.tl_geom.specs.Rectangle.{AreMeeting}
use Rattle.tl_tree.specs.Keeping.Marking.{MeetsAt}
use Rattle.tl_tree.specs.Keeping.Walking.{Collects}
use Rattle.tl_tree.proofs.Marks8.{includes-later, includes-meets, includes-same}
use Rattle.tl_tree.proofs.Steps.{below-at}
use Rattle.tl_tree.proofs.Hitting.{collects-nothing, collects-hit, collects-miss, miss}
use Rattle.tl_tree.proofs.hits.push_hits.Goals as goal
use Rattle.tl_tree.proofs.hits.push_hits.Goals.{else-is_first_marked-via-then-is_first_marked+then-hits+else-is_err, else-is_first_marked-via-then-is_first_marked+else-hits, else-is_first_marked-via-else-is_first_marked}

pub hits-requires : goal.hits-requires
hits-requires g c = below-at _ _ c.loop-i.i-index c.loop-i-test.true c.requires.known

pub loop-i-init : goal.loop-i-init
loop-i-init g c =
    let b = g.I.Items.bounds_of c.args.items.now in
    let P = MeetsAt b c.args.region c.args.some.now in
    let none_passed : (k : ℕ) → k + 0 ≡ k = λ k. omega arith in
    record {
      found = collects-nothing (g.P.Probe.hit c.args.probe.now c.args.items.now) [] c.args.out.now.items c.args.out.now.items refl (λ i h. refl);
      marks = includes-same P _ _ (λ k lt m. subst P (none_passed k) m) (includes-meets b c.args.region c.args.some.now c.bounds_of_eight.result c.args.region c.meets8-marks.result c.bounds_of_eight.ensures refl c.meets8-marks.ensures);
    }

pub loop-i-preserved : goal.loop-i-preserved
loop-i-preserved g c =
    let hit = g.P.Probe.hit c.args.probe.now c.args.items.now in
    let b = g.I.Items.bounds_of c.args.items.now in
    let n = g.I.Items.count c.args.items.now in
    let xs = c.args.some.now in
    let k = c.loop-i.i-index in
    let now = c.loop-i.out.items in
    let old = c.args.out.now.items in
    let P = MeetsAt b c.args.region xs in
    let passed : (j : ℕ) → j + (k + 1) ≡ j + 1 + k = λ j. omega arith in
    let found : Collects hit (take (k + 1) xs) old c.else-is_first_marked.out.items =
    elim c.else-is_first_marked.branch [
      | else-is_first_marked-via-then-is_first_marked+then-hits+else-is_err w ↦
          let ok : is_ok w.push.result ≡ true = w.is_err.ensures.negation ∙ ap not w.if-is_err.false in
          collects-hit hit xs k old now c.else-is_first_marked.out.items c.loop-i-test.true (w.hits.ensures.0 w.if-hits.true)
          (ap (λ v. v.items) w.out-is ∙ w.push.ensures.items ∙ ap (λ t. cond t (now ++ get_or xs k 0 ∷ []) now) ok) c.loop-i.invariant.found
      | else-is_first_marked-via-then-is_first_marked+else-hits w ↦
          collects-miss hit xs k old now c.else-is_first_marked.out.items c.loop-i-test.true (λ h. false≢true (sym w.if-hits.false ∙ w.hits.ensures.1 h)) (ap (λ v. v.items) w.out-is) c.loop-i.invariant.found
      | else-is_first_marked-via-else-is_first_marked w ↦
          let here : k ≡ 0 + k = omega arith in
          let no : AreMeeting (b (get_or xs k 0)) c.args.region → ⊥ = λ m.
          let at : P k = record { within = c.loop-i-test.true; meets = m } in
          false≢true (sym w.if-is_first_marked.false ∙ c.is_first_marked.ensures.1 (c.loop-i.invariant.marks 0 (omega arith) (subst P here at))) in
          collects-miss hit xs k old now c.else-is_first_marked.out.items c.loop-i-test.true
          (miss n b hit c.args.region (λ i h e. rw c.requires.region (g.met.P.Probe.hits_meet c.args.probe.now c.args.items.now i h e)) (get_or xs k 0) (below-at n xs k c.loop-i-test.true c.requires.known) no)
          (ap (λ v. v.items) w.out-is) c.loop-i.invariant.found
    ] in
    record {
      found = found;
      marks = includes-same _ _ _ (λ j lt m. subst P (passed j) m) (includes-later (λ j. P (j + k)) _ _ c.later_marks-marks.ensures.moved c.later_marks-marks.ensures.last c.loop-i.invariant.marks);
    }

pub returns : goal.returns
returns g c =
    let P : List ℕ → Type 0 = λ xs. Collects (g.P.Probe.hit c.args.probe.now c.args.items.now) xs c.args.out.now.items c.loop-i.out.items in
    record {
      hits = subst P (take_all c.loop-i.i-index c.args.some.now c.loop-i-test.false) c.loop-i.invariant.found;
      grows = record { added = c.loop-i.invariant.found.found; appended = c.loop-i.invariant.found.appended };
    }

pub bounds_of_eight-requires : goal.bounds_of_eight-requires
bounds_of_eight-requires g c = c.requires.known

pub returns-then-is_err-clause-hits : goal.returns-then-is_err-clause-hits
returns-then-is_err-clause-hits g c = tt

pub returns-then-is_err-clause-grows : goal.returns-then-is_err-clause-grows
returns-then-is_err-clause-grows g c =
    let xs = c.args.some.now in
    let now = c.loop-i.out.items in
    record {
      added = c.loop-i.invariant.found.found;
      appended = c.push.ensures.items ∙ ap (λ t. cond t (now ++ get_or xs c.loop-i.i-index 0 ∷ []) now) c.if-is_err.ensures.negation ∙ c.loop-i.invariant.found.appended;
    }
