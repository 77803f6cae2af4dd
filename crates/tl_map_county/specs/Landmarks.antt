-- What holds of the polygons of each landmark of a map.
use Rattle.std.specs.Prelude.{⊤, ℕ, ◌≢◌, ◌<◌, List, [], ◌∷◌, All}

-- each number stands once
abbrev pub AreOnce : List ℕ → Type 0
AreOnce [] = ⊤
AreOnce (x ∷ xs) = All (λ y. y ≢ x) xs × AreOnce xs

-- numbers of polygons of a map that has n of them, each once
pub record ArePolygonsOf (n : ℕ) (ps : List ℕ) : Type 0 where
  pub below : All (λ p. p < n) ps
  pub once : AreOnce ps
