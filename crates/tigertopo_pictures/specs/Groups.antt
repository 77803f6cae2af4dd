-- Items by their groups.
use Rattle.std.specs.Prelude.{◌≡◌, ◌<◌, ◌≤◌, ℕ, suc, ◌==◌, Bool, true, false, if◌then◌else◌, List, [], ◌∷◌, length, Option, Some, None, slice_index}

-- is this the group
abbrev pub is_group : ℕ → Option ℕ → Bool
is_group g None = false
is_group g (Some other) = other == g

-- the places from number n on at which the group stands, where the list says in which group each item is
abbrev pub places_from : ℕ → ℕ → List (Option ℕ) → List ℕ
places_from g n [] = []
places_from g n (group ∷ rest) = if is_group g group then n ∷ places_from g (suc n) rest else places_from g (suc n) rest

-- the places at which it stands, by rising number
abbrev pub places : ℕ → List (Option ℕ) → List ℕ
places g groups = places_from g 0 groups

-- who starts at this number, and goes on from each to the one that `next` has beside it, comes through these, and behind
-- the last beyond all of `next`
abbrev pub GoesThrough : List ℕ → ℕ → List ℕ → Type 0
GoesThrough next at [] = length next ≤ at
GoesThrough next at (n ∷ rest) = (at ≡ n) × (n < length next) × GoesThrough next (slice_index next n) rest

-- is it a list of one item
abbrev pub is_one : List ℕ → Bool
is_one [] = false
is_one (n ∷ []) = true
is_one (n ∷ other ∷ rest) = false

-- the first item of each group, and beside each item the next one of its group
pub record Linked : Type 0 where
  pub first : List ℕ
  pub next : List ℕ

-- they are the groups of these items, so many groups
pub record AreGroups (count : ℕ) (groups : List (Option ℕ)) (linked : Linked) : Type 0 where
  pub counted : length linked.first ≡ count
  pub items : length linked.next ≡ length groups
  pub each : (g : ℕ) → g < count → GoesThrough linked.next (slice_index linked.first g) (places g groups)
