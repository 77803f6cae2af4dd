use Rattle.std.proofs.Common.{arith}
use Rattle.std.proofs.lemmas.Int.{ints, clamps}
use Rattle.tl_tree.proofs.near.are_apart.Goals as goal
use Rattle.tl_geom.proofs.Rectangles.{meeting_by, by_meeting}

pub returns : goal.returns
returns c = (
  λ h. let k = c.is_either.ensures.0 h in meeting_by c.args.r c.args.q (omega (arith, ints, clamps, c.is_gap.ensures.0 k.0)) (omega (arith, ints, clamps, c.is_gap-2.ensures.0 k.1)),
  λ m. let k = by_meeting c.args.r c.args.q m in c.is_either.ensures.1 (c.is_gap.ensures.1 (omega (arith, ints, clamps, k.0)), c.is_gap-2.ensures.1 (omega (arith, ints, clamps, k.1))),
)
