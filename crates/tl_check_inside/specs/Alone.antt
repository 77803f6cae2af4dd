-- What lies at the point of a polygon of a sound map.
use Rattle.std.specs.Prelude.{◌≡◌, ℕ, Some, List, [], ◌∷◌, slice_get, All, Contains}
use Rattle.std.specs.List.Sorted.{IsStrictlyIncreasing}
use Rattle.tl_map_county.specs.TheMap.{TheMap, MapLandmark}
use Rattle.tl_check_inside.specs.declared.place.Place.{Place}
use Rattle.tl_check_inside.specs.declared.place.Place.TheVariants.{OnChain, In}

-- polygon p is linked to landmark l
pub record IsLinked (m : TheMap) (p l : ℕ) : Type 0 where
  pub landmark : MapLandmark
  pub is : slice_get m.landmarks l ≡ Some landmark
  pub has : Contains landmark.polygons p

-- by rising number, the landmarks that polygon p is linked to, and no other
pub record AreLinked (m : TheMap) (p : ℕ) (listed : List ℕ) : Type 0 where
  pub rising : IsStrictlyIncreasing listed
  pub each : All (IsLinked m p) listed
  pub others : (l : ℕ) → IsLinked m p l → Contains listed l

-- there lies polygon p alone, with exactly the landmarks that it is linked to
abbrev pub IsAlone : TheMap → ℕ → Place → Type 0
IsAlone m p (OnChain c) = ⊥
IsAlone m p (In polygons landmarks) = (polygons.items ≡ p ∷ []) × AreLinked m p landmarks.items
