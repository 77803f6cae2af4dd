-- What follows for ends of segments from the range of their longitudes.
use Rattle.std.proofs.Common.{◌≡◌, ⊎_elim, List, arith}
use Rattle.std.proofs.lemmas.Int.{ints}
use Rattle.tl_geom.specs.declared.point.Point.{Point}
use Rattle.tl_map_county.specs.TheMap.{MapChain}
use Rattle.tl_check_planar.specs.ByHeight.Heights.{height, widest, AreNear}
use Rattle.tl_check_planar.specs.ByHeight.Neighbours.{IsWide}
use Rattle.tl_check_planar.proofs.ByHeight.Rising.{one_higher}
use Rattle.tl_check_active.specs.Ranges.{IsInRange, AreInRange}

pub near_by_range : (p q : Point) → IsInRange p → IsInRange q → AreNear widest p q
near_by_range p q r t =
    let a = r.west in
    let b = r.east in
    let c = t.west in
    let d = t.east in
    record { west = omega (arith, ints, b, c); east = omega (arith, ints, a, d) }

pub wide_by_range : (chains : List MapChain) → AreInRange chains → IsWide widest chains
wide_by_range chains ranges s segment is = let both = ranges s segment is in near_by_range segment.a segment.b both.0 both.1

-- points that differ have different heights
pub heights_differ : (p q : Point) → IsInRange p → IsInRange q → ¬ (p ≡ q) → ¬ (height widest p ≡ height widest q)
heights_differ p q r t differ same =
    ⊎_elim (λ low. omega (arith, ints, same, low)) (λ high. omega (arith, ints, same, high)) (one_higher widest p q (near_by_range p q r t) differ)
