use Rattle.std.proofs.Common.{arith, sym}
use Rattle.std.proofs.lemmas.Int.{ints, clamps}
use borrow.Author.Differences.{false_is_lt}
use mir.Syntax.{w32}
use mir.Val.{to_z, of_z}
use Rattle.tl_tree.proofs.near.is_gap.Goals as goal

pub returns : goal.returns
returns c = (
  λ h. omega (arith, ints, clamps, c.max.ensures.value, c.min.ensures.value, h),
  λ h. sym (false_is_lt (to_z w32 (of_z w32 c.min.result)) (to_z w32 (of_z w32 c.max.result)) (omega (arith, ints, clamps, c.max.ensures.value, c.min.ensures.value, h))),
)
