use Rattle.std.proofs.Common.{arith}
use Rattle.std.proofs.lemmas.Int.{ints}
use Rattle.tl_geom.proofs.Conditions.{second_test}
use Rattle.tl_geom.proofs.rect.Rect.holds.Goals as goal

pub returns-then-is_within : goal.returns-then-is_within
returns-then-is_within c =
    second_test _ _ c.if-is_within.true c.is_within.ensures c.is_within-then-is_within.ensures
    (λ x y. record { west = omega (arith, ints, x.0); east = omega (arith, ints, x.1); south = omega (arith, ints, y.0); north = omega (arith, ints, y.1) })
    (λ h. (omega (arith, ints, h.south), omega (arith, ints, h.north)))
