-- How the count of failed reads or writes goes on.
use Rattle.std.specs.Prelude.{◌≡◌, ℕ, ◌+◌, ◌-◌, ◌^◌, ◌==◌, ◌&&◌, not, min, List, length, Result, MatchResult, if◌then◌else◌}

-- one more failure, up to the greatest u64
abbrev pub one_more : ℕ → ℕ
one_more count = min (count + 1) (2 ^ 64 - 1)

-- a read that answers an error counts, and no other
abbrev pub CountsRead : {E : Type 0} → ℕ → ℕ → Result ℕ E → Type 0
CountsRead old new r = MatchResult r (λ _. new ≡ old) (λ _. new ≡ one_more old)

-- a write counts that answers an error, or that takes no byte where bytes were offered, and no other
abbrev pub CountsWrite : {E : Type 0} → ℕ → ℕ → Result ℕ E → List ℕ → Type 0
CountsWrite old new r offered =
    MatchResult r (λ taken. new ≡ (if taken == 0 && not (length offered == 0) then one_more old else old)) (λ _. new ≡ one_more old)
