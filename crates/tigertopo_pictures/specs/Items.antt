-- Texts in a row.
use Rattle.std.specs.Prelude.{ℕ, List, [], ◌∷◌, ◌++◌, codes, flat_map}

-- the texts of a list's items with a comma between two
abbrev pub separated : {X : Type 0} → (X → List ℕ) → List X → List ℕ
separated text [] = []
separated text (x ∷ rest) = text x ++ flat_map (λ y. codes "," ++ text y) rest
