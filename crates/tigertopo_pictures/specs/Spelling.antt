-- Words within text of another kind.
use Rattle.std.specs.Prelude.{◌≡◌, ℕ, List}
use Rattle.std.specs.List.{flat_map}
use Rattle.tigertopo_pictures.specs.declared.spelling.Spelt.{Spelt}

-- to the page behind it a page adds the text with each byte spelt
pub record AddsSpelt {E P : Type 0} (spelt : ℕ → List ℕ) (adds : P → P → List ℕ → Type 0) (old new : Spelt E P) (text : List ℕ) : Type 0 where
  pub same : new.page.ghost_name ≡ old.page.ghost_name
  pub spells : adds old.page.now new.page.now (flat_map spelt text)
