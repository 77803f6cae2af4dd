use Rattle.std.proofs.Common.{⊎_elim, inl, inr, length, ◌-◌, arith}
use Rattle.std.proofs.lemmas.Bool.{iff_false}
use Rattle.tl_check_planar.proofs.Ends.{at_place}
use Rattle.tl_check_planar.proofs.allowed.is_end.Goals as goal

pub returns-then-is_same : goal.returns-then-is_same
returns-then-is_same c = (
  λ h. inl ((at_place c.args.points.now 0 c.args.p _ (omega arith)).1 (c.is_same.ensures.0 h)),
  λ h. c.if-is_same.true,
)

pub returns-else-is_same : goal.returns-else-is_same
returns-else-is_same c = (
  λ h. inr ((at_place c.args.points.now (length c.args.points.now - 1) c.args.p _ (omega arith)).1 (c.is_same-else-is_same.ensures.0 h)),
  ⊎_elim
      (λ first. absurd (iff_false c.is_same.ensures c.if-is_same.false ((at_place c.args.points.now 0 c.args.p _ (omega arith)).0 first)))
      (λ last. c.is_same-else-is_same.ensures.1 ((at_place c.args.points.now (length c.args.points.now - 1) c.args.p _ (omega arith)).0 last)),
)
