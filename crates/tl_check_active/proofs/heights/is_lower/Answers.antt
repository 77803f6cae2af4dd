use Rattle.std.proofs.Common.{◌≡◌, pos, to_z, of_z, w64, ◌∙◌, arith}
use Rattle.std.proofs.lemmas.Int.{ints}
use Rattle.tl_check_planar.specs.ByHeight.Heights.{height, widest}
use Rattle.tl_check_active.proofs.Tests.{lower_moved}
use Rattle.tl_check_active.proofs.heights.is_lower.Goals as goal

pub returns : goal.returns
returns c =
    let fits = c.height.type_inv in
    let fits' = c.height-2.type_inv in
    let one : to_z w64 (of_z w64 c.height.result) ≡ c.height.result = omega (arith, ints, fits) in
    let other : to_z w64 (of_z w64 c.height-2.result) ≡ c.height-2.result = omega (arith, ints, fits') in
    lower_moved (height widest c.args.p) (height widest c.args.q) _ _ (pos 2147483647) (one ∙ c.height.ensures) (other ∙ c.height-2.ensures)
