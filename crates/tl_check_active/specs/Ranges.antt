-- The ends of segments, whose longitudes are numbers of 32 bits.
use Rattle.std.specs.Prelude.{ℕ, pos, negsuc, ◌≤ℤ◌, List}
use Rattle.tl_geom.specs.declared.point.Point.{Point}
use Rattle.tl_geom.specs.declared.segment.Segment.{Segment}
use Rattle.tl_map_county.specs.TheMap.{MapChain}
use Rattle.tl_check_planar.specs.ByHeight.Neighbours.{IsNumbered}

-- its longitude is a signed number of 32 bits
pub record IsInRange (p : Point) : Type 0 where
  pub west : negsuc 2147483647 ≤ℤ p.x
  pub east : p.x ≤ℤ pos 2147483647

-- so are those of all ends of segments
abbrev pub AreInRange : List MapChain → Type 0
AreInRange chains = (s : ℕ) (segment : Segment) → IsNumbered chains s segment → IsInRange segment.a × IsInRange segment.b
