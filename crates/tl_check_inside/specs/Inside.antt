-- What lies about a point: how often the ray that runs from it to the east comes out of a polygon, or of a landmark, and how
-- often it goes in.
use Rattle.std.specs.Prelude.{◌≡◌, ℕ, Bool, false, ◌==◌, if◌then◌else◌, ℤ, pos, ◌+ℤ◌, ◌-ℤ◌, int_lt, List, [], ◌∷◌, ◌++◌, length, map, count_by, slice_index_or}
use Rattle.std.specs.List.{list_any}
use Rattle.tl_geom.specs.declared.point.Point.{Point}
use Rattle.tl_geom.specs.declared.rational.Rational.{Rational}
use Rattle.tl_geom.specs.declared.segment.Segment.{Segment}
use Rattle.tl_geom.specs.Plane.{whole}
use Rattle.tl_geom.specs.Ray.{Crosses}
use Rattle.tl_map_county.specs.declared.sides.Side.{Side}
use Rattle.tl_map_county.specs.declared.sides.Side.TheVariants.{Outside, Polygon}
use Rattle.tl_map_county.specs.TheMap.{MapChain}
use Rattle.tl_map_county.specs.Segments.{segments_before, IsSegmentOf, Joins}
use Rattle.tl_tree_index.specs.Hits.{AreHits}
use Rattle.tl_check_inside.specs.declared.flanks.Flanks.{Flanks}

-- `Flanks` are the two sides of a segment: the near side, which a point west of it sees, and the far side.

-- the sides of the segment from one point to another, with these on its left and its right: the near side is the left one where it goes up, and the
-- right one where it doesn't
abbrev pub flanks_between : (p q : Point) → (left right : Side) → Flanks
flanks_between p q left right =
    if int_lt p.y q.y then record { near = left; far = right } else record { near = right; far = left }

-- those of the segments from a point by the others, in order
abbrev pub flanks_from : Point → List Point → (left right : Side) → List Flanks
flanks_from p [] left right = []
flanks_from p (q ∷ points) left right = flanks_between p q left right ∷ flanks_from q points left right

-- those of the segments of a chain with these points and sides
abbrev pub flanks_along : List Point → (left right : Side) → List Flanks
flanks_along [] left right = []
flanks_along (p ∷ points) left right = flanks_from p points left right

-- those of the segments of all chains
abbrev pub flanks_of : List MapChain → List Flanks
flanks_of [] = []
flanks_of (c ∷ chains) = flanks_along c.points c.left c.right ++ flanks_of chains

-- those of segment s; of a segment that there isn't, the outside on both sides
abbrev pub flanks_at : List MapChain → ℕ → Flanks
flanks_at chains s = slice_index_or (flanks_of chains) s (record { near = Outside; far = Outside })

-- the ray from q to the east crosses segment s
pub record IsCrossedAt (chains : List MapChain) (q : Rational) (s : ℕ) : Type 0 where
  pub c : ℕ
  pub k : ℕ
  pub segment : Segment
  pub number : IsSegmentOf chains s c k
  pub joins : Joins chains c k segment
  pub crosses : Crosses segment q

-- the segments that it crosses, each once
abbrev pub AreCrossedAt : List MapChain → Rational → List ℕ → Type 0
AreCrossedAt chains q crossed = AreHits (segments_before chains (length chains)) (IsCrossedAt chains q) crossed

-- of these crossed segments, how many have such a side near, less how many have one far
abbrev pub balance : (Side → Bool) → List Flanks → ℤ
balance S crossed = pos (count_by (λ f. S f.near) crossed) -ℤ pos (count_by (λ f. S f.far) crossed)

-- the count of such sides at q: over all segments that the ray from q to the east crosses, each once
pub record IsCountAt (chains : List MapChain) (q : Rational) (S : Side → Bool) (n : ℤ) : Type 0 where
  pub crossed : List ℕ
  pub are : AreCrossedAt chains q crossed
  pub counted : n ≡ balance S (map (flanks_at chains) crossed)

-- the same of a point
abbrev pub IsCrossed : List MapChain → Point → ℕ → Type 0
IsCrossed chains q s = IsCrossedAt chains (whole q) s

abbrev pub AreCrossed : List MapChain → Point → List ℕ → Type 0
AreCrossed chains q crossed = AreCrossedAt chains (whole q) crossed

abbrev pub IsCount : List MapChain → Point → (Side → Bool) → ℤ → Type 0
IsCount chains q S n = IsCountAt chains (whole q) S n

-- the side is polygon p
abbrev pub is_polygon : ℕ → Side → Bool
is_polygon p Outside = false
is_polygon p (Polygon other) = other == p

-- the side is one of these polygons
abbrev pub is_among : List ℕ → Side → Bool
is_among polygons Outside = false
is_among polygons (Polygon other) = list_any (λ p. other == p) polygons

-- the sum of the counts of these polygons
abbrev pub total : (ℕ → ℤ) → List ℕ → ℤ
total counts [] = pos 0
total counts (p ∷ polygons) = counts p +ℤ total counts polygons

-- the count of polygon p at a place
abbrev pub IsPolygonCountAt : List MapChain → Rational → ℕ → ℤ → Type 0
IsPolygonCountAt chains q p n = IsCountAt chains q (is_polygon p) n

-- the count of polygon p at q, and that of a landmark that these polygons are linked to
abbrev pub IsPolygonCount : List MapChain → Point → ℕ → ℤ → Type 0
IsPolygonCount chains q p n = IsCount chains q (is_polygon p) n

abbrev pub IsLandmarkCount : List MapChain → Point → List ℕ → ℤ → Type 0
IsLandmarkCount chains q polygons n = IsCount chains q (is_among polygons) n

-- q is inside polygon p: the ray comes out of it once more than it goes in
abbrev pub IsInside : List MapChain → Point → ℕ → Type 0
IsInside chains q p = IsPolygonCount chains q p (pos 1)

-- q is clear of polygon p: it comes out as often as it goes in
abbrev pub IsClear : List MapChain → Point → ℕ → Type 0
IsClear chains q p = IsPolygonCount chains q p (pos 0)
