-- Pairs of items that conflict, each found from one that is marked.
use Rattle.std.specs.Prelude.{◌≡◌, ◌⊎◌, ℕ, ◌<◌, Bool, true, false, Option, List, slice_index_or, length, All, Contains}
use Rattle.std.specs.Prelude.{if◌then◌else◌, nat_lt}
use Rattle.tl_geom.specs.declared.rect.Rect.{Rect}
use Rattle.tl_geom.specs.Rectangle.{AreMeeting}
use Rattle.tl_tree_index.specs.declared.items.Conflict.{Conflict}
use Rattle.tl_tree_index.specs.Searches.{IsConflict}
use Rattle.tl_check_planar.specs.declared.listing.pairs.Pair.{Pair}
use Rattle.tl_check_planar.specs.Listing.Orders.{AreRising}
use Rattle.tl_check_planar.specs.Listing.Keeping.Listing.{IsListed}

-- the pair of two items, the lower number first
abbrev pub pair_of : ℕ → ℕ → Pair
pair_of i j = if nat_lt i j then record { i = i; j = j } else record { i = j; j = i }

-- item j is behind item i, one of n items, or before it and not marked; and of both it isn't told that they don't conflict
abbrev pub IsFoundFrom : {C : Type 0} → ℕ → (ℕ → ℕ → Option C → Type 0) → List Bool → (i j : ℕ) → Type 0
IsFoundFrom n tells marks i j = IsListed n tells i j ⊎ ((slice_index_or marks j false ≡ false) × IsListed n tells j i)

-- the same, and the rectangle of item j meets this one
pub record IsHitFrom {C : Type 0} (n : ℕ) (bounds_of : ℕ → Rect) (tells : ℕ → ℕ → Option C → Type 0) (marks : List Bool) (i : ℕ) (bounds : Rect) (j : ℕ) : Type 0 where
  pub meet : AreMeeting bounds (bounds_of j)
  pub found : IsFoundFrom n tells marks i j

-- the pair is found from one of the first m items, which is marked
abbrev pub IsFoundBefore : {C : Type 0} → ℕ → (ℕ → ℕ → Option C → Type 0) → List Bool → (m i j : ℕ) → Type 0
IsFoundBefore n tells marks m i j =
    ((i < m) × (slice_index_or marks i false ≡ true)) ⊎ ((j < m) × (slice_index_or marks j false ≡ true) × (slice_index_or marks i false ≡ false))

-- each pair is of two items that conflict, and each two that conflict and are found from one of the first m stand there
pub record ArePairsBefore {C : Type 0} (n : ℕ) (tells : ℕ → ℕ → Option C → Type 0) (marks : List Bool) (m : ℕ) (pairs : List Pair) : Type 0 where
  pub each : All (λ p. IsListed n tells p.i p.j) pairs
  pub complete : (i j : ℕ) → IsListed n tells i j → IsFoundBefore n tells marks m i j → Contains pairs (record { i = i; j = j })

-- each pair is of two items that conflict, and each two that conflict stand there
pub record AreAllPairs {C : Type 0} (n : ℕ) (tells : ℕ → ℕ → Option C → Type 0) (pairs : List Pair) : Type 0 where
  pub each : All (λ p. IsListed n tells p.i p.j) pairs
  pub complete : (i j : ℕ) → IsListed n tells i j → Contains pairs (record { i = i; j = j })

-- pairs rise strictly
abbrev pub AreInOrder : List Pair → Type 0
AreInOrder pairs = AreRising (λ p. p.i) (λ p. p.j) pairs

-- the conflict is that of the pair
pub record IsConflictOf {C : Type 0} (n : ℕ) (tells : ℕ → ℕ → Option C → Type 0) (pair : Pair) (f : Conflict C) : Type 0 where
  pub first : f.i ≡ pair.i
  pub second : f.j ≡ pair.j
  pub is_true : IsConflict n tells f.i f.j f.c

-- the conflicts are those of the first n pairs, in order
pub record AreConflictsOf {C : Type 0} (n : ℕ) (tells : ℕ → ℕ → Option C → Type 0) (m : ℕ) (pairs : List Pair) (found : List (Conflict C)) : Type 0 where
  pub long : length found ≡ m
  pub each : (k : ℕ) (p : Pair) (f : Conflict C) → k < m → IsConflictOf n tells (slice_index_or pairs k p) (slice_index_or found k f)
