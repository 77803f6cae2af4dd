-- What rings add to the counts at a point: how often their segments cross its ray upward, less how often downward.
use Rattle.std.specs.Prelude.{◌≡◌, ℕ, ℤ, pos, neg_ℤ, ◌+ℤ◌, int_lt, Bool, false, not, ◌&&◌, if◌then◌else◌, Some, List, [], ◌∷◌, All}
use Rattle.std.specs.Option.{option_map_or}
use Rattle.tl_geom.specs.declared.point.Point.{Point}
use Rattle.tl_geom.specs.declared.rect.Rect.{Rect}
use Rattle.tl_geom.specs.Plane.{turn_of}
use Rattle.tl_geom.specs.Rectangle.{Holds}
use Rattle.tl_map_county.specs.declared.sides.Side.{Side}
use Rattle.tl_map_county.specs.TheMap.{MapChain}
use Rattle.tl_map_county.specs.Darts.{chain_of, is_along, dart_left}
use Rattle.tl_check_sides.specs.Lists.{list_at}
use Rattle.tl_check_inside.specs.Inside.{total}
use Rattle.tl_check_faces.specs.Crossings.Heights.{is_above}

-- the segment from a to b goes up across the ray from q to the east: a is not above the height of q, b is, and q is on
-- the left of the way from a to b
abbrev pub goes_up_across : Point → (a b : Point) → Bool
goes_up_across q a b = not (is_above q.y a) && (is_above q.y b && int_lt (pos 0) (turn_of a b q))

-- what it adds at q: 1 where it goes up across the ray, -1 where it goes down across it, else 0
abbrev pub crossing : Point → (a b : Point) → ℤ
crossing q a b = if goes_up_across q a b then pos 1 else if goes_up_across q b a then neg_ℤ (pos 1) else pos 0

-- what the segments from a point by the others add
abbrev pub crossings_from : Point → Point → List Point → ℤ
crossings_from q a [] = pos 0
crossings_from q a (b ∷ points) = crossing q a b +ℤ crossings_from q b points

-- what the segments of a chain with these points add
abbrev pub crossings : Point → List Point → ℤ
crossings q [] = pos 0
crossings q (a ∷ points) = crossings_from q a points

-- what a dart adds: what the segments of its chain do, with the other sign against the chain
abbrev pub dart_crossings : List MapChain → Point → ℕ → ℤ
dart_crossings chains q d =
    option_map_or (λ c. if is_along d then crossings q c.points else neg_ℤ (crossings q c.points)) (chain_of chains d) (pos 0)

-- how often a ring winds about q: what its darts add
abbrev pub winding : List MapChain → Point → List ℕ → ℤ
winding chains q ring = total (dart_crossings chains q) ring

-- the dart has such a side on its left
abbrev pub has_left : List MapChain → (Side → Bool) → ℕ → Bool
has_left chains S d = option_map_or S (dart_left chains d) false

-- what a ring adds to the count of such sides: what those of its darts do that have one on their left
abbrev pub ring_count : List MapChain → Point → (Side → Bool) → List ℕ → ℤ
ring_count chains q S ring = total (λ d. if has_left chains S d then dart_crossings chains q d else pos 0) ring

-- what the rings of these numbers add
abbrev pub rings_count : List MapChain → Point → (Side → Bool) → List (List ℕ) → List ℕ → ℤ
rings_count chains q S rings numbers = total (λ k. ring_count chains q S (list_at rings k)) numbers

-- the rectangle holds each point of the dart's chain
abbrev pub HoldsDart : List MapChain → Rect → ℕ → Type 0
HoldsDart chains r d = (chain : MapChain) → chain_of chains d ≡ Some chain → All (Holds r) chain.points

-- it holds each point of the ring
abbrev pub HoldsRing : List MapChain → Rect → List ℕ → Type 0
HoldsRing chains r ring = All (HoldsDart chains r) ring
