-- Lists of the segments that are active in a slab, along which facing sides agree: what a sweep can look at.
use Rattle.std.specs.Prelude.{◌≡◌, ℕ, ℤ, ◌<ℤ◌, int_lt, if◌then◌else◌, List, [], ◌∷◌}
use Rattle.tl_geom.specs.declared.point.Point.{Point}
use Rattle.tl_geom.specs.declared.segment.Segment.{Segment}
use Rattle.tl_map_county.specs.declared.sides.Side.{Side}
use Rattle.tl_map_county.specs.declared.sides.Side.TheVariants.{Outside}
use Rattle.tl_map_county.specs.TheMap.{MapChain}
use Rattle.tl_check_inside.specs.declared.flanks.Flanks.{Flanks}
use Rattle.tl_check_planar.specs.ByHeight.Heights.{height, AreNear}
use Rattle.tl_check_planar.specs.ByHeight.Neighbours.{IsNumbered}
use Rattle.tl_check_planar.specs.ByHeight.Slabs.{IsListOf, IsChainPoint}

-- the side that a segment of a chain has to the west, along lines of one height, and the one that it has to the east. Of a
-- level segment the first is the southern one
abbrev pub west_side : ℤ → MapChain → Segment → Side
west_side K chain u = if int_lt (height K u.a) (height K u.b) then chain.left else chain.right

abbrev pub east_side : ℤ → MapChain → Segment → Side
east_side K chain u = if int_lt (height K u.a) (height K u.b) then chain.right else chain.left

-- both, as flanks
abbrev pub sides_by_height : ℤ → MapChain → Segment → Flanks
sides_by_height K chain u = record { near = west_side K chain u; far = east_side K chain u }

-- the segment runs level to the west
pub record RunsWest (u : Segment) : Type 0 where
  pub level : u.a.y ≡ u.b.y
  pub west : u.b.x <ℤ u.a.x

-- the east side of each segment of a list is the west side of the next; the list stands between one side and the outside
abbrev pub AreFacingFrom : ℤ → List MapChain → Side → List ℕ → Type 0
AreFacingFrom K chains west [] = west ≡ Outside
AreFacingFrom K chains west (s ∷ rest) =
    (u : Segment) (n : IsNumbered chains s u) → (west ≡ west_side K n.joins.chain u) × AreFacingFrom K chains (east_side K n.joins.chain u) rest

-- each slab has a list of which each two neighbours are tested, and along it facing sides agree from the outside to the outside
abbrev pub AreSlabsFacing : ℤ → List MapChain → Type 0
AreSlabsFacing K chains = (n : ℤ) → (list : List ℕ) × IsListOf K n chains list × AreFacingFrom K chains Outside list

-- K is above the difference of the longitudes of any two points of chains
abbrev pub AreAllNear : ℤ → List MapChain → Type 0
AreAllNear K chains = (c k d j : ℕ) (p q : Point) → IsChainPoint chains c k p → IsChainPoint chains d j q → AreNear K p q
