-- What a list of hits is.
use Rattle.std.specs.Prelude.{◌≡◌, ℕ, ◌<◌, ◌≤◌, ◌+◌, ◌==◌, List, [], ◌∷◌, ◌++◌, if◌then◌else◌}

-- how often i stands in the list
abbrev pub times : ℕ → List ℕ → ℕ
times i [] = 0
times i (x ∷ xs) = (if i == x then 1 else 0) + times i xs

-- each of the n items that is hit stands in the list once, and nothing else does
pub record AreHits (n : ℕ) (hit : ℕ → Type 0) (found : List ℕ) : Type 0 where
  pub once : (i : ℕ) → i < n → hit i → times i found ≡ 1
  pub others : (i : ℕ) → ¬ hit i → times i found ≡ 0
  pub known : (i : ℕ) → n ≤ i → times i found ≡ 0

-- new is old, followed by each of the n items that is hit, once, and by nothing else
pub record Adds (n : ℕ) (hit : ℕ → Type 0) (old new : List ℕ) : Type 0 where
  pub found : List ℕ
  pub appended : new ≡ old ++ found
  pub hits : AreHits n hit found
