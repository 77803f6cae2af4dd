-- All faults of faces, in their order.
use Rattle.std.specs.Prelude.{ℕ, ◌+◌, ℤ, Option, None, Some, List, Contains}
use Rattle.std.specs.List.{AllZip}
use Rattle.tl_map_county.specs.TheMap.{TheMap}
use Rattle.tl_check_planar.specs.ByHeight.Heights.{widest}
use Rattle.tl_check_planar.specs.Listing.Orders.{AreRising}
use Rattle.tl_check_faces.specs.declared.fault.FaceFault.{FaceFault}
use Rattle.tl_check_faces.specs.Level.{DifferAlong}
use Rattle.tl_check_faces.specs.Faults.{IsFaultBetween}

-- what stands west and what stands east: a segment by its number, or none and so the outside
pub record WestAndEast : Type 0 where
  pub west : Option ℕ
  pub east : Option ℕ

-- the order of what stands on one side: where there is no segment it comes before all
abbrev pub order_of : Option ℕ → ℕ
order_of None = 0
order_of (Some s) = s + 1

-- they are all faults of faces: one of each two segments, or of one and the outside, that name different sides along any line of one height,
-- and no other. They rise by what stands west, and of one such by what stands east, so that of no two there are two faults
pub record AreAllFaceFaults (m : TheMap) (faults : List FaceFault) : Type 0 where
  pub between : List WestAndEast
  pub each : AllZip (λ sides fault. IsFaultBetween m sides.west sides.east fault) between faults
  pub complete : (n : ℤ) (sides : WestAndEast) → DifferAlong widest n m.chains sides.west sides.east → Contains between sides
  pub in_order : AreRising (λ sides. order_of sides.west) (λ sides. order_of sides.east) between
