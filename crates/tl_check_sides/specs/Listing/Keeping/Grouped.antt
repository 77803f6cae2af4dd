-- The groups of darts that head in one direction about one node, and which group is the next one.
use Rattle.std.specs.Prelude.{◌≡◌, ◌≢◌, ◌⊎◌, ℕ, ◌+◌, ◌<◌, ◌≤◌, List, length, map, slice_index, All, Contains}
use Rattle.std.specs.List.{AllPairs}
use Rattle.tl_map_county.specs.TheMap.{MapChain}
use Rattle.tl_check_sides.specs.Sides.{IsNext}
use Rattle.tl_check_sides.specs.declared.headed.HeadedDart.{HeadedDart}
use Rattle.tl_check_sides.specs.declared.listing.groups.Groups.{Groups}
use Rattle.tl_check_sides.specs.Headed.{HeadTogether}
use Rattle.tl_check_sides.specs.Listing.Keeping.Around.{headed_at, AreAround}

-- from the place up to the end all are of its group, and behind that end there is another, or none; at the place behind
-- all darts it is that one
pub record IsEndOf (darts : List HeadedDart) (place end : ℕ) : Type 0 where
  pub behind : place < length darts → place < end
  pub within : end ≤ length darts
  pub one : (j : ℕ) → place ≤ j → j < end → HeadTogether (headed_at darts place) (headed_at darts j)
  pub other : end < length darts → ¬ HeadTogether (headed_at darts place) (headed_at darts end)

-- of each place from this one on the end of its group
pub record AreEnds (darts : List HeadedDart) (from : ℕ) (ends : List ℕ) : Type 0 where
  pub long : length ends ≡ length darts
  pub each : (k : ℕ) → from ≤ k → k < length darts → IsEndOf darts k (slice_index ends k)

-- the node of the place begins at first
pub record IsFirstOf (darts : List HeadedDart) (place first : ℕ) : Type 0 where
  pub before : first ≤ place
  pub node : (headed_at darts first).node ≡ (headed_at darts place).node
  pub begins : (k : ℕ) → k < first → (headed_at darts k).node ≢ (headed_at darts place).node

-- of the first n places the last one's node begins at first
pub record HaveBegun (darts : List HeadedDart) (n first : ℕ) : Type 0 where
  pub none : n ≡ 0 → first ≡ 0
  pub last : (k : ℕ) → k + 1 ≡ n → IsFirstOf darts k first

-- the group at next lies behind the place, with nothing between it and the group of the place
pub record IsBehind (darts : List HeadedDart) (place next : ℕ) : Type 0 where
  pub behind : place < next
  pub other : ¬ HeadTogether (headed_at darts place) (headed_at darts next)
  pub between : (j : ℕ) → place ≤ j → j < next → HeadTogether (headed_at darts place) (headed_at darts j)

-- the group at next is the node's first, and that of the place its last
pub record IsAround (darts : List HeadedDart) (place next : ℕ) : Type 0 where
  pub before : next ≤ place
  pub first : (j : ℕ) → j < next → (headed_at darts j).node ≢ (headed_at darts place).node
  pub last : (j : ℕ) → place ≤ j → j < length darts → (headed_at darts j).node ≡ (headed_at darts place).node →
      HeadTogether (headed_at darts place) (headed_at darts j)

-- at next begins the group that is next after that of the place
pub record IsNextPlace (darts : List HeadedDart) (place next : ℕ) : Type 0 where
  pub within : next < length darts
  pub node : (headed_at darts next).node ≡ (headed_at darts place).node
  pub how : IsBehind darts place next ⊎ IsAround darts place next

-- of the darts at the first n places the beginning of the group that is next
pub record AreNexts (darts : List HeadedDart) (n : ℕ) (nexts : List ℕ) : Type 0 where
  pub long : length nexts ≡ length darts
  pub each : (k : ℕ) → k < n → IsNextPlace darts k (slice_index nexts (headed_at darts k).dart)

-- darts, ends and nexts are those of the chains
pub record AreGrouped (chains : List MapChain) (groups : Groups) : Type 0 where
  pub around : AreAround chains groups.darts.items
  pub ends : AreEnds groups.darts.items 0 groups.ends.items
  pub nexts : AreNexts groups.darts.items (length groups.darts.items) groups.nexts.items

-- the numbers of darts
abbrev pub numbers_of : List HeadedDart → List ℕ
numbers_of darts = map (λ s. s.dart) darts

-- the darts are those that are next after this one, by rising number
pub record AreNextTo (chains : List MapChain) (dart : ℕ) (next : List HeadedDart) : Type 0 where
  pub rising : AllPairs (λ a b. a < b) (numbers_of next)
  pub each : All (IsNext chains dart) (numbers_of next)
  pub complete : (b : ℕ) → IsNext chains dart b → Contains (numbers_of next) b
