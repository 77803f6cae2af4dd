-- The order of pairs of numbers.
use Rattle.std.specs.Prelude.{◌≡◌, ◌⊎◌, ℕ, ◌<◌, List}
use Rattle.std.specs.List.{AllPairs}

-- the pair of a and b comes before that of c and d: a is below c, or they are equal and b is below d
abbrev pub IsPairBefore : (a b c d : ℕ) → Type 0
IsPairBefore a b c d = (a < c) ⊎ ((a ≡ c) × (b < d))

-- things rise strictly by two numbers that each has: by the first, and where that is one by the second
abbrev pub AreRising : {X : Type 0} → (first second : X → ℕ) → List X → Type 0
AreRising first second xs = AllPairs (λ x y. IsPairBefore (first x) (second x) (first y) (second y)) xs
