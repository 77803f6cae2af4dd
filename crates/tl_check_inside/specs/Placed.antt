-- Where the points of polygons have to lie, and what is wrong where one lies elsewhere.
use Rattle.std.specs.Prelude.{◌≡◌, ◌≢◌, ℕ, ◌<◌, Some, length, slice_get}
use Rattle.tl_geom.specs.declared.point.Point.{Point}
use Rattle.tl_record_key.specs.declared.key.PolyKey.{PolyKey}
use Rattle.tl_map_county.specs.declared.polygons.Polygon.{Polygon}
use Rattle.tl_map_county.specs.TheMap.{TheMap}
use Rattle.tl_check_inside.specs.declared.misplaced.Misplaced.{Misplaced}
use Rattle.tl_check_inside.specs.declared.misplaced.Misplaced.TheVariants.{OnChain, Outside, InOther}
use Rattle.tl_check_inside.specs.Inside.{IsInside, IsClear}
use Rattle.tl_check_inside.specs.Places.{IsHeldBy, IsOffChains}

-- the point is on no chain, inside polygon p and clear of every other
pub record IsPlacedIn (m : TheMap) (q : Point) (p : ℕ) : Type 0 where
  pub off : IsOffChains m.chains q
  pub inside : IsInside m.chains q p
  pub clear : (other : ℕ) → other < length m.polygons → other ≢ p → IsClear m.chains q other

-- the point of each polygon is, for its own polygon
abbrev pub ArePlaced : TheMap → Type 0
ArePlaced m = (p : ℕ) (polygon : Polygon) → slice_get m.polygons p ≡ Some polygon → IsPlacedIn m polygon.point p

-- polygon p has this key, and its point is q
abbrev pub IsPointOf : TheMap → ℕ → PolyKey → Point → Type 0
IsPointOf m p key q = slice_get m.polygons p ≡ Some (record { key = key; point = q })

-- the point of the polygon with this key is on the chain with this TLID
pub record IsPointOnChain (m : TheMap) (key : PolyKey) (tlid : ℕ) : Type 0 where
  pub p : ℕ
  pub point : Point
  pub of : IsPointOf m p key point
  pub c : ℕ
  pub held : IsHeldBy m.chains point c
  pub tlid_is : held.chain.tlid ≡ tlid

-- it isn't inside its polygon
pub record IsPointOutside (m : TheMap) (key : PolyKey) : Type 0 where
  pub p : ℕ
  pub point : Point
  pub of : IsPointOf m p key point
  pub outside : ¬ IsInside m.chains point p

-- it isn't clear of another polygon, that with this key
pub record IsPointInOther (m : TheMap) (key other : PolyKey) : Type 0 where
  pub p : ℕ
  pub point : Point
  pub of : IsPointOf m p key point
  pub q : ℕ
  pub other_point : Point
  pub other_of : IsPointOf m q other other_point
  pub two : q ≢ p
  pub within : ¬ IsClear m.chains point q

-- what is said of a map by what is wrong
abbrev pub IsTrueMisplaced : TheMap → Misplaced → Type 0
IsTrueMisplaced m (OnChain polygon tlid) = IsPointOnChain m polygon tlid
IsTrueMisplaced m (Outside polygon) = IsPointOutside m polygon
IsTrueMisplaced m (InOther polygon other) = IsPointInOther m polygon other
