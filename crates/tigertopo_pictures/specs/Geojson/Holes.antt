-- Outer rings, and the holes that lie in them.
--
-- A ring runs with its polygon on the left. An outer ring runs counter-clockwise about what it bounds, and a hole clockwise. A ring without an
-- area bounds nothing, as one along both sides of a street that is off by itself.
use Rattle.std.specs.Prelude.{◌≡◌, ◌<◌, ◌^◌, ℕ, ◌+◌, ◌-◌, Bool, not, ◌&&◌, ◌||◌, if◌then◌else◌, List, [], ◌∷◌, length, map, count_by, is_some, slice_get, slice_index, slice_index_or, unsigned_abs, Option, Some, None, ℤ, pos, negsuc, int_lt, int_le}
use Rattle.std.specs.Ordering.{int_cmp, is_lt, is_gt}
use Rattle.std.specs.Option.{option_map_or, option_and_then}
use Rattle.tl_geom.specs.declared.point.Point.{Point}
use Rattle.tl_geom.specs.Plane.{turn_of}
use Rattle.tl_map_county.specs.TheMap.{TheMap, MapChain}
use Rattle.tl_map_county.specs.Darts.{dart_start}
use Rattle.tl_check_sides.specs.Lists.{list_at}
use Rattle.tigertopo_pictures.specs.Groups.{places, Linked, AreGroups}
use Rattle.tigertopo_pictures.specs.Geojson.Areas.{sum_below, dart_sum}
use Rattle.tigertopo_pictures.specs.Walks.{dart_points, walk_polygon}

-- twice the area of a ring: the sum over the steps of its darts
abbrev pub ring_area : List MapChain → List ℕ → ℤ
ring_area chains walk = sum_below (λ k. dart_sum chains (slice_index walk k)) (length walk)

-- these are the areas of walks, each of less than 127 bits
pub record AreRingAreas (chains : List MapChain) (walks : List (List ℕ)) (areas : List ℤ) : Type 0 where
  pub long : length areas ≡ length walks
  pub each : (n : ℕ) → n < length walks → slice_index_or areas n (pos 0) ≡ ring_area chains (list_at walks n)
  pub small : (n : ℕ) → n < length walks → unsigned_abs (ring_area chains (list_at walks n)) < 2 ^ 127

-- the polygon whose outer ring a walk is, and the one whose hole it is
abbrev pub outer_polygon : List MapChain → List ℕ → Option ℕ
outer_polygon chains walk = if int_lt (pos 0) (ring_area chains walk) then walk_polygon chains walk else None

abbrev pub hole_polygon : List MapChain → List ℕ → Option ℕ
hole_polygon chains walk = if int_lt (ring_area chains walk) (pos 0) then walk_polygon chains walk else None

-- the outer rings of polygon p, by the numbers of their walks
abbrev pub outer_rings : List MapChain → List (List ℕ) → ℕ → List ℕ
outer_rings chains walks p = places p (map (outer_polygon chains) walks)

-- ---- where a hole lies

-- of two points the one further north, and of two as far north the first
abbrev pub norther : Point → Point → Point
norther p q = if int_lt p.y q.y then q else p

-- the northernmost of a point and others
abbrev pub northernmost : Point → List Point → Point
northernmost p [] = p
northernmost p (q ∷ points) = northernmost (norther p q) points

-- that of a point and the points of darts
abbrev pub north_of : List MapChain → Point → List ℕ → Point
north_of chains p [] = p
north_of chains p (d ∷ darts) = north_of chains (northernmost p (dart_points chains d)) darts

-- the northernmost point of a ring
abbrev pub ring_north : List MapChain → List ℕ → Option Point
ring_north chains [] = None
ring_north chains (d ∷ darts) = option_map_or (λ p. Some (north_of chains p (d ∷ darts))) (dart_start chains d) None

-- the step from a to b crosses the way from q to the east upward, or downward: the place of q is on its left, or on its right. A step counts where
-- one of its ends lies further north than q and the other doesn't
abbrev pub is_upward : (q a b : Point) → Bool
is_upward q a b = int_le a.y q.y && int_lt q.y b.y && is_gt (int_cmp (turn_of a b q) (pos 0))

abbrev pub is_downward : (q a b : Point) → Bool
is_downward q a b = int_le b.y q.y && int_lt q.y a.y && is_lt (int_cmp (turn_of a b q) (pos 0))

-- 1 for a step upward, -1 for one downward, and 0 for any other
abbrev pub crossing : (q a b : Point) → ℤ
crossing q a b = if is_upward q a b then pos 1 else (if is_downward q a b then negsuc 0 else pos 0)

abbrev pub crossing_of : Point → Option Point → Option Point → ℤ
crossing_of q None b = pos 0
crossing_of q (Some a) None = pos 0
crossing_of q (Some a) (Some b) = crossing q a b

abbrev pub crossing_at : Point → List Point → ℕ → ℤ
crossing_at q points k = crossing_of q (slice_get points k) (slice_get points (k + 1))

-- their sum over the steps of a dart
abbrev pub dart_crossings : List MapChain → Point → ℕ → ℤ
dart_crossings chains q d = sum_below (crossing_at q (dart_points chains d)) (length (dart_points chains d) - 1)

-- how often a ring winds about a point
abbrev pub winding : List MapChain → Point → List ℕ → ℤ
winding chains q walk = sum_below (λ k. dart_crossings chains q (slice_index walk k)) (length walk)

-- ring n holds the point
abbrev pub holds : List MapChain → List (List ℕ) → Point → ℕ → Bool
holds chains walks q n = int_lt (pos 0) (winding chains q (list_at walks n))

-- of two rings the second, where it holds the point and the first doesn't, or bounds more
abbrev pub is_closer : List MapChain → List (List ℕ) → Point → (n other : ℕ) → Bool
is_closer chains walks q n other =
    holds chains walks q other && (not (holds chains walks q n) || int_lt (ring_area chains (list_at walks other)) (ring_area chains (list_at walks n)))

-- of rings that hold the point the one that bounds least; the first ring, where none holds it
abbrev pub innermost : List MapChain → List (List ℕ) → Point → ℕ → List ℕ → ℕ
innermost chains walks q n [] = n
innermost chains walks q n (other ∷ rest) = innermost chains walks q (if is_closer chains walks q n other then other else n) rest

-- of these outer rings the one in which a hole lies: that around its northernmost point
abbrev pub ring_around : List MapChain → List (List ℕ) → List ℕ → List ℕ → Option ℕ
ring_around chains walks walk [] = None
ring_around chains walks walk (n ∷ []) = Some n
ring_around chains walks walk (n ∷ rest) = option_map_or (λ q. Some (innermost chains walks q n rest)) (ring_north chains walk) None

-- the outer ring in which a walk lies, if it is a hole
abbrev pub home : List MapChain → List (List ℕ) → List ℕ → Option ℕ
home chains walks walk = option_and_then (λ p. ring_around chains walks walk (outer_rings chains walks p)) (hole_polygon chains walk)

-- the holes of outer ring n, by the numbers of their walks
abbrev pub holes_in : List MapChain → List (List ℕ) → ℕ → List ℕ
holes_in chains walks n = places n (map (home chains walks) walks)

-- ---- the rings of all polygons

-- the outer rings of each polygon, the holes in each ring, and how many rings these are
pub record TheShapes : Type 0 where
  pub outers : Linked
  pub holes : Linked
  pub rings : ℕ

-- how many rings polygons have: the outer rings, and the holes that lie in one
abbrev pub ring_count : List MapChain → List (List ℕ) → ℕ
ring_count chains walks = count_by is_some (map (outer_polygon chains) walks) + count_by is_some (map (home chains walks) walks)

-- these are the shapes of a map with these walks
pub record AreShapes (m : TheMap) (walks : List (List ℕ)) (shapes : TheShapes) : Type 0 where
  pub outers : AreGroups (length m.polygons) (map (outer_polygon m.chains) walks) shapes.outers
  pub holes : AreGroups (length walks) (map (home m.chains walks) walks) shapes.holes
  pub counted : shapes.rings ≡ ring_count m.chains walks
