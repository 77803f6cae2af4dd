-- The pairs that are told on the way.
use Rattle.std.specs.Prelude.{◌≡◌, ◌≢◌, ℕ, ◌<◌, ◌==◌, Option, Some, None, List, [], ◌∷◌, length, All, if◌then◌else◌}
use Rattle.std.specs.List.{AllPairs, Any}
use Rattle.std.specs.List.Sorted.{IsSortedBy}
use Rattle.std.specs.Ordering.{nat_cmp, ordering_then, is_lt}
use Rattle.tl_map_county.specs.TheMap.{MapChain}
use Rattle.tl_check_sides.specs.declared.cells.at_odds.CellsAtOdds.{CellsAtOdds}
use Rattle.tl_check_sides.specs.declared.listing.starts.CellStart.{CellStart}
use Rattle.tl_check_sides.specs.Listing.CellOdds.{IsFirstAtStart, AreToldAtOdds}
use Rattle.tl_check_sides.specs.Listing.Keeping.Starts.{start_at, first_of, IsCellStart}

-- the pair of two darts with their ids, the first first
abbrev pub pair_of : (a b id_a id_b : ℕ) → CellsAtOdds
pair_of a b id_a id_b = record { first = a; second = b; first_id = id_a; second_id = id_b }

-- the pair of a dart with the first that has its id, unless it is that one
abbrev pub id_odds : CellStart → ℕ → List CellsAtOdds
id_odds s head = if head == s.dart then [] else (pair_of head s.dart s.id s.id ∷ [])

-- the pair of a dart with the first at its start, unless that one has the same id
abbrev pub start_odds : CellStart → Option CellStart → List CellsAtOdds
start_odds s None = []
start_odds s (Some first) = if first.id == s.id then [] else (pair_of first.dart s.dart first.id s.id ∷ [])

-- it is the first dart with an id at the node
pub record IsFirstOf (chains : List MapChain) (n : ℕ) (s : CellStart) : Type 0 where
  pub true_one : IsCellStart chains s
  pub node : s.node ≡ n
  pub first : IsFirstAtStart chains s.id s.dart

-- of each node the first dart with an id there is kept, if one has one
pub record AreFirsts (chains : List MapChain) (firsts : List (Option CellStart)) : Type 0 where
  pub each : (n : ℕ) (s : CellStart) → n < length firsts → first_of firsts n ≡ Some s → IsFirstOf chains n s
  pub all : (s : CellStart) → IsCellStart chains s → first_of firsts s.node ≢ None

-- the two pairs are of other darts
abbrev pub ArePairsApart : CellsAtOdds → CellsAtOdds → Type 0
ArePairsApart o p = ¬ ((o.first ≡ p.first) × (o.second ≡ p.second))

-- the second dart is that of one of the first n places
abbrev pub IsFrom : List CellStart → ℕ → CellsAtOdds → Type 0
IsFrom starts n o = (k : ℕ) × (k < n) × (o.second ≡ (start_at starts k).dart)

-- the pairs with second darts at the first n places, each once
pub record HaveTold (chains : List MapChain) (starts : List CellStart) (n : ℕ) (found : List CellsAtOdds) : Type 0 where
  pub good : All (λ o. AreToldAtOdds chains o.first o.second o.first_id o.second_id) found
  pub all : (k a id_a id_b : ℕ) → k < n → AreToldAtOdds chains a (start_at starts k).dart id_a id_b →
      Any (λ o. (o.first ≡ a) × (o.second ≡ (start_at starts k).dart)) found
  pub once : AllPairs ArePairsApart found
  pub from : All (IsFrom starts n) found

-- by their first darts, and those of one first by their second
abbrev pub ArePairsSorted : List CellsAtOdds → Type 0
ArePairsSorted found = IsSortedBy (λ o p. is_lt (ordering_then (nat_cmp o.first p.first) (nat_cmp o.second p.second))) found
