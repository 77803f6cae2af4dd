-- Numbers that are listed.
use Rattle.std.specs.Prelude.{ℕ, List, All, Contains}
use Rattle.std.specs.List.Sorted.{IsStrictlyIncreasing}

-- these are the numbers of which it holds, by rising number
pub record AreListed (P : ℕ → Type 0) (numbers : List ℕ) : Type 0 where
  pub rising : IsStrictlyIncreasing numbers
  pub each : All P numbers
  pub complete : (x : ℕ) → P x → Contains numbers x
