-- What it is to add text to a page.
use Rattle.std.specs.Prelude.{ℕ, List, [], ◌++◌}

-- what stays as it is adds nothing, and one text behind another is added as both together
pub record IsAdding {P : Type 0} (adds : P → P → List ℕ → Type 0) : Type 0 where
  pub nothing : {page : P} → adds page page []
  pub both : {before between behind : P} {first last : List ℕ} → adds before between first → adds between behind last → adds before behind (first ++ last)
