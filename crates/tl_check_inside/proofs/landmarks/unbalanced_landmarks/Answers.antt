use Rattle.std.proofs.Common.{ℕ, ◌<◌, Vec, Global, All, sym, subst, ap, ◌∙◌}
use Rattle.tl_check_inside.specs.Keeping.Listed.{passing}
use Rattle.tl_check_inside.specs.Keeping.Sums.{sums_differ}
use Rattle.tl_check_inside.proofs.Passing.{passed_on, passed_by, pushed}
use Rattle.tl_check_inside.proofs.Placing.{sums_apart, sums_together}
use Rattle.tl_check_inside.proofs.landmarks.unbalanced_landmarks.Goals.{then-sum_of+else-is_err, else-sum_of}
use Rattle.tl_check_inside.proofs.landmarks.unbalanced_landmarks.Goals as goal
use Rattle.tl_tree_index.proofs.Splitting.{at_end}

pub loop-l-init : goal.loop-l-init
loop-l-init c = c.new-listed.ensures.items

pub sum_of-requires : goal.sum_of-requires
sum_of-requires c = subst (λ n. All (λ p. p < n) c.landmark.result.polygons.now) (sym c.requires.nears) c.landmark.ensures.polygons.below

pub sum_of-requires-in-loop-l : goal.sum_of-requires-in-loop-l
sum_of-requires-in-loop-l c = subst (λ n. All (λ p. p < n) c.landmark.result.polygons.now) (sym c.requires.fars) c.landmark.ensures.polygons.below

pub loop-l-preserved : goal.loop-l-preserved
loop-l-preserved c = elim c.if-sum_of.branch [
  | then-sum_of+else-is_err w ↦
      passed_on (sums_differ c.args.map.now.landmarks c.args.near.now c.args.far.now) c.loop-l.l c.loop-l.listed.items c.if-sum_of.listed.items c.loop-l.invariant
      (sums_apart c.args.map.now.landmarks c.args.near.now c.args.far.now c.loop-l.l c.sum_of.result c.sum_of-in-loop-l.result _ c.landmark.ensures.landmark c.sum_of.ensures c.sum_of-in-loop-l.ensures w.if-sum_of.true)
      (ap (λ (v : Vec ℕ Global). v.items) w.listed-is ∙ pushed w.push.result _ _ _ w.push.ensures.items (sym w.is_err.ensures.value ∙ w.if-is_err.false))
  | else-sum_of w ↦
      passed_by (sums_differ c.args.map.now.landmarks c.args.near.now c.args.far.now) c.loop-l.l c.loop-l.listed.items c.if-sum_of.listed.items c.loop-l.invariant
      (sums_together c.args.map.now.landmarks c.args.near.now c.args.far.now c.loop-l.l c.sum_of.result c.sum_of-in-loop-l.result _ c.landmark.ensures.landmark c.sum_of.ensures c.sum_of-in-loop-l.ensures w.if-sum_of.false)
      (ap (λ (v : Vec ℕ Global). v.items) w.listed-is)
]

pub returns-then-is_err-clause-listed : goal.returns-then-is_err-clause-listed
returns-then-is_err-clause-listed c = tt

pub returns-then-is_err-clause-polygons : goal.returns-then-is_err-clause-polygons
returns-then-is_err-clause-polygons c = tt

pub returns-clause-listed : goal.returns-clause-listed
returns-clause-listed c =
    c.loop-l.invariant ∙ ap (passing (sums_differ c.args.map.now.landmarks c.args.near.now c.args.far.now)) (at_end _ _ c.loop-l-test.false c.loop-l.auto.l-end ∙ c.landmarks-l-end.ensures.count)

pub returns-clause-polygons : goal.returns-clause-polygons
returns-clause-polygons c = c.landmarks-l-end.ensures.polygons
