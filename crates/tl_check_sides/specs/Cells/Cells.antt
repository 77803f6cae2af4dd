-- Zero-cell ids that agree: one id for each point, and one point for each id.
use Rattle.std.specs.Prelude.{◌≡◌, ◌≢◌, ℕ, ◌<◌, ◌⊎◌, ◌↔◌, Some, List}
use Rattle.tl_map_county.specs.TheMap.{MapChain}
use Rattle.tl_map_county.specs.Darts.{dart_start, dart_cell}

-- the dart has this id at its start
abbrev pub HasCell : List MapChain → ℕ → ℕ → Type 0
HasCell chains d id = dart_cell chains d ≡ Some (Some id)

-- no dart has an id
abbrev pub HaveNoCells : List MapChain → Type 0
HaveNoCells chains = (d id : ℕ) → ¬ HasCell chains d id

-- the darts start at one point
abbrev pub HaveOneStart : List MapChain → ℕ → ℕ → Type 0
HaveOneStart chains a b = dart_start chains a ≡ dart_start chains b

-- cells agree: of any two darts that have ids, the ids are equal exactly where the darts start at one point
abbrev pub CellsAgree : List MapChain → Type 0
CellsAgree chains = (a b id_a id_b : ℕ) → HasCell chains a id_a → HasCell chains b id_b → (id_a ≡ id_b) ↔ HaveOneStart chains a b

-- darts a and b are at odds: both have ids, these, and either the ids are equal and the starts differ, or the starts are
-- equal and the ids differ
pub record AreCellsAtOdds (chains : List MapChain) (a b id_a id_b : ℕ) : Type 0 where
  pub in_order : a < b
  pub a_has : HasCell chains a id_a
  pub b_has : HasCell chains b id_b
  pub odd : ((id_a ≡ id_b) × ¬ HaveOneStart chains a b) ⊎ (HaveOneStart chains a b × (id_a ≢ id_b))
