-- The border of a part by itself, and borders that are joined.
use Rattle.std.specs.Prelude.{◌≡◌, ℕ, ◌<◌, Bool, ◌||◌, Some, List, length, take, slice_get}
use Rattle.tl_map_county.specs.declared.polygons.Polygon as polygons
use Rattle.tl_map_county.specs.declared.sides.Side.{Side}
use Rattle.tl_map_county.specs.declared.sides.Side.TheVariants.{Outside, Polygon}
use Rattle.tl_map_county.specs.TheMap.{TheMap, MapChain}
use Rattle.tigertopo_border.specs.Whole.Told.{AreTold}
use Rattle.tigertopo_border.specs.Whole.Homes.{Homes, is_blank}

-- the whole part as one polygon, the first
abbrev pub as_one : Side → Side
as_one Outside = Outside
as_one (Polygon p) = Polygon 0

-- the chain names a polygon on one side at most
abbrev pub has_blank : MapChain → Bool
has_blank c = is_blank c.left || is_blank c.right

-- the point is that of a polygon of the part
pub record IsPointWithin (part : TheMap) (polygon : polygons.Polygon) : Type 0 where
  pub place : ℕ
  pub other : polygons.Polygon
  pub is : slice_get part.polygons place ≡ Some other
  pub point : polygon.point ≡ other.point

-- the border of a part: its chains that name a polygon on one side at most, on which the part is one polygon; and that polygon, with the
-- point of any of the part's, if there is one
pub record IsBorderOf (part border : TheMap) : Type 0 where
  pub chains : AreTold as_one has_blank part.chains border.chains
  pub many : length border.polygons ≡ length (take 1 part.polygons)
  pub points : (polygon : polygons.Polygon) → slice_get border.polygons 0 ≡ Some polygon → IsPointWithin part polygon

-- there is one of each part
pub record AreBordersOf (parts borders : List TheMap) : Type 0 where
  pub many : length borders ≡ length parts
  pub each : (k : ℕ) (part border : TheMap) → slice_get parts k ≡ Some part → slice_get borders k ≡ Some border → IsBorderOf part border

-- where the borders are joined, polygon k is part k, as the first polygon of its border, so parts without polygons come last; and a chain
-- that names none is of the same part
abbrev pub of_borders : Homes → Homes
of_borders homes = record { part = λ k. k; number = λ k. 0; teller = homes.teller }

-- chains by rising TLID, as those of a map are
abbrev pub AreTlidsRising : List MapChain → Type 0
AreTlidsRising chains =
    (c d : ℕ) (one other : MapChain) → c < d → slice_get chains c ≡ Some one → slice_get chains d ≡ Some other → one.tlid < other.tlid
