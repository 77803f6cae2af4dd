-- Numbers that are listed one after the other.
use Rattle.std.specs.Prelude.{◌≡◌, ℕ, zero, suc, ◌<◌, ◌≤◌, Bool, not, ◌==◌, if◌then◌else◌}
use Rattle.std.specs.Prelude.{List, [], ◌∷◌, ◌++◌, slice_index}

-- the numbers below n that pass, by rising number
abbrev pub passing : (ℕ → Bool) → ℕ → List ℕ
passing P zero = []
passing P (suc n) = if P n then passing P n ++ n ∷ [] else passing P n

-- place p has two different numbers in the two lists
abbrev pub differ_at : List ℕ → List ℕ → ℕ → Bool
differ_at near far p = not (slice_index near p == slice_index far p)

-- the number is the least of the first n
pub record IsLeastOf (numbers : List ℕ) (n x : ℕ) : Type 0 where
  pub place : ℕ
  pub within : place < n
  pub is : slice_index numbers place ≡ x
  pub least : (k : ℕ) → k < n → x ≤ slice_index numbers k
