-- Where a point lies in a map.
use Rattle.std.specs.Prelude.{◌≡◌, ◌≢◌, ℕ, ◌<◌, ◌⊎◌, ℤ, pos, Some, List, length, slice_get, All, Contains}
use Rattle.std.specs.List.Sorted.{IsStrictlyIncreasing}
use Rattle.tl_geom.specs.declared.point.Point.{Point}
use Rattle.tl_geom.specs.Plane.{whole}
use Rattle.tl_map_county.specs.TheMap.{TheMap, MapChain, MapLandmark}
use Rattle.tl_check_planar.specs.Planar.{IsOnChain}
use Rattle.tl_check_inside.specs.declared.place.Place.{Place}
use Rattle.tl_check_inside.specs.declared.place.Place.TheVariants.{OnChain, In}
use Rattle.tl_check_inside.specs.Inside.{IsPolygonCount, IsLandmarkCount}

-- chain c holds the point
pub record IsHeldBy (chains : List MapChain) (q : Point) (c : ℕ) : Type 0 where
  pub chain : MapChain
  pub is : slice_get chains c ≡ Some chain
  pub on : IsOnChain chain.points (whole q)

-- it is the lowest that does
pub record IsLowestOn (chains : List MapChain) (q : Point) (c : ℕ) : Type 0 where
  pub held : IsHeldBy chains q c
  pub lowest : (d : ℕ) → d < c → ¬ IsHeldBy chains q d

-- no chain holds the point
abbrev pub IsOffChains : List MapChain → Point → Type 0
IsOffChains chains q = (c : ℕ) → ¬ IsHeldBy chains q c

-- the count isn't 0
abbrev pub HasCount : (ℤ → Type 0) → Type 0
HasCount counts = (n : ℤ) × counts n × (n ≢ pos 0)

-- by rising number, those of the numbers below n whose count isn't 0, and no other
pub record AreCounted (n : ℕ) (counts : ℕ → ℤ → Type 0) (listed : List ℕ) : Type 0 where
  pub rising : IsStrictlyIncreasing listed
  pub each : All (λ p. (p < n) × HasCount (counts p)) listed
  pub others : (p : ℕ) → p < n → Contains listed p ⊎ counts p (pos 0)

-- the count of landmark l
pub record IsCountOf (m : TheMap) (q : Point) (l : ℕ) (n : ℤ) : Type 0 where
  pub landmark : MapLandmark
  pub is : slice_get m.landmarks l ≡ Some landmark
  pub count : IsLandmarkCount m.chains q landmark.polygons n

-- where the point lies: on this chain, which is the lowest that holds it, or on none, with these polygons and these
-- landmarks, whose counts aren't 0
abbrev pub IsPlaceOf : TheMap → Point → Place → Type 0
IsPlaceOf m q (OnChain c) = IsLowestOn m.chains q c
IsPlaceOf m q (In polygons landmarks) =
    IsOffChains m.chains q × AreCounted (length m.polygons) (IsPolygonCount m.chains q) polygons.items
    × AreCounted (length m.landmarks) (IsCountOf m q) landmarks.items
