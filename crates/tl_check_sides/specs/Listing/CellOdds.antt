-- All zero-cell ids that are at odds, told by as few pairs as will do.
use Rattle.std.specs.Prelude.{◌≡◌, ◌≢◌, ◌⊎◌, ℕ, ◌<◌, List, All}
use Rattle.std.specs.List.{Any}
use Rattle.tl_map_county.specs.TheMap.{MapChain}
use Rattle.tl_check_sides.specs.declared.cells.at_odds.CellsAtOdds.{CellsAtOdds}
use Rattle.tl_check_sides.specs.Cells.Cells.{HasCell, HaveOneStart}
use Rattle.tl_check_planar.specs.Listing.Orders.{AreRising}

-- the first dart that has the id
pub record IsFirstWithId (chains : List MapChain) (id d : ℕ) : Type 0 where
  pub has : HasCell chains d id
  pub first : (e : ℕ) → e < d → ¬ HasCell chains e id

-- the dart has the id, and is the first with an id at its start
pub record IsFirstAtStart (chains : List MapChain) (id d : ℕ) : Type 0 where
  pub has : HasCell chains d id
  pub first : (e other : ℕ) → e < d → HaveOneStart chains e d → ¬ HasCell chains e other

-- the first dart that has the id at its start
pub record IsFirstOfBoth (chains : List MapChain) (id d : ℕ) : Type 0 where
  pub has : HasCell chains d id
  pub first : (e : ℕ) → e < d → HaveOneStart chains e d → ¬ HasCell chains e id

-- one id at two starts: of the darts that have it a is the first, and b the first at another start
pub record IsIdAtOdds (chains : List MapChain) (a b id_a id_b : ℕ) : Type 0 where
  pub head : IsFirstWithId chains id_a a
  pub other : IsFirstOfBoth chains id_b b
  pub same : id_a ≡ id_b
  pub apart : ¬ HaveOneStart chains a b

-- two ids at one start: of the darts there that have one a is the first, and b the first with another
pub record IsStartAtOdds (chains : List MapChain) (a b id_a id_b : ℕ) : Type 0 where
  pub head : IsFirstAtStart chains id_a a
  pub other : IsFirstOfBoth chains id_b b
  pub same : HaveOneStart chains a b
  pub apart : id_a ≢ id_b

-- darts a and b with these ids are told as a pair
abbrev pub AreToldAtOdds : List MapChain → (a b id_a id_b : ℕ) → Type 0
AreToldAtOdds chains a b id_a id_b = IsIdAtOdds chains a b id_a id_b ⊎ IsStartAtOdds chains a b id_a id_b

-- each is such a pair; each such pair stands there; and they rise strictly, so that none stands there twice
pub record AreAllCellsAtOdds (chains : List MapChain) (found : List CellsAtOdds) : Type 0 where
  pub true_ones : All (λ o. AreToldAtOdds chains o.first o.second o.first_id o.second_id) found
  pub complete : (a b id_a id_b : ℕ) → AreToldAtOdds chains a b id_a id_b → Any (λ o. (o.first ≡ a) × (o.second ≡ b)) found
  pub rising : AreRising (λ o. o.first) (λ o. o.second) found
