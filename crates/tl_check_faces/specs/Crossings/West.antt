-- What lies about a point, told by the ray that runs from it to the west.
use Rattle.std.specs.Prelude.{◌≡◌, ℕ, ℤ, Bool, ◌*ℤ◌, ◌<ℤ◌, Some, List, length, map, slice_get}
use Rattle.tl_geom.specs.declared.point.Point.{Point}
use Rattle.tl_geom.specs.declared.rational.Rational.{Rational}
use Rattle.tl_geom.specs.declared.segment.Segment.{Segment}
use Rattle.tl_geom.specs.Plane.{IsOn, whole}
use Rattle.tl_geom.specs.Ray.{IsParted}
use Rattle.tl_map_county.specs.declared.sides.Side.{Side}
use Rattle.tl_map_county.specs.TheMap.{TheMap, MapChain, MapLandmark}
use Rattle.tl_map_county.specs.Segments.{segments_before, IsSegmentOf, Joins}
use Rattle.tl_tree_index.specs.Hits.{AreHits}
use Rattle.tl_check_inside.specs.declared.flanks.Flanks.{Flanks}
use Rattle.tl_check_inside.specs.Inside.{flanks_at, balance, is_polygon, is_among}

-- the rational point is strictly west of q, at its height
pub record IsWest (q : Point) (r : Rational) : Type 0 where
  pub height : r.y ≡ r.d *ℤ q.y
  pub past : r.x <ℤ (r.d *ℤ q.x)

-- the segment crosses the ray of q to the west: the height of q parts its ends, and a point of it is strictly west of q
pub record CrossesWest (s : Segment) (q : Point) : Type 0 where
  pub parted : IsParted (whole q) s.a s.b
  pub place : Rational
  pub on_segment : IsOn s place
  pub to_the_west : IsWest q place

-- the ray from q to the west crosses segment s
pub record IsCrossedWest (chains : List MapChain) (q : Point) (s : ℕ) : Type 0 where
  pub c : ℕ
  pub k : ℕ
  pub segment : Segment
  pub number : IsSegmentOf chains s c k
  pub joins : Joins chains c k segment
  pub crosses : CrossesWest segment q

-- the segments that it crosses, each once
abbrev pub AreCrossedWest : List MapChain → Point → List ℕ → Type 0
AreCrossedWest chains q crossed = AreHits (segments_before chains (length chains)) (IsCrossedWest chains q) crossed

-- the flanks of segment s for a point east of it, which sees the side that is far from the west
abbrev pub west_flanks_at : List MapChain → ℕ → Flanks
west_flanks_at chains s = record { near = (flanks_at chains s).far; far = (flanks_at chains s).near }

-- the count of such sides at q by the ray to the west
pub record IsWestCount (chains : List MapChain) (q : Point) (S : Side → Bool) (n : ℤ) : Type 0 where
  pub crossed : List ℕ
  pub are : AreCrossedWest chains q crossed
  pub counted : n ≡ balance S (map (west_flanks_at chains) crossed)

-- that of polygon p, and that of landmark l
abbrev pub IsWestPolygonCount : List MapChain → Point → ℕ → ℤ → Type 0
IsWestPolygonCount chains q p n = IsWestCount chains q (is_polygon p) n

pub record IsWestCountOf (m : TheMap) (q : Point) (l : ℕ) (n : ℤ) : Type 0 where
  pub landmark : MapLandmark
  pub is : slice_get m.landmarks l ≡ Some landmark
  pub count : IsWestCount m.chains q (is_among landmark.polygons) n
