-- Bytes that go from a source into a buffer.
use Rattle.std.specs.Prelude.{◌≡◌, ℕ, List, ◌++◌, length, Option, Result, MatchResult}
use Rattle.std.specs.Io.KnownBytes.{Consumes, Keeps, IsAtEnd}

-- the buffer has these bytes more, which the source lost; none come only at the source's end
pub record FetchesBytes (old new : List ℕ) (source_old source_new : Option (List ℕ)) (bytes : List ℕ) : Type 0 where
  pub added : new ≡ old ++ bytes
  pub consumed : Consumes source_old source_new bytes
  pub ended : length bytes ≡ 0 → IsAtEnd source_new

-- a fetch adds as many bytes as it says, or fails and changes nothing
abbrev pub Fetches : {E : Type 0} → List ℕ → List ℕ → Option (List ℕ) → Option (List ℕ) → Result ℕ E → Type 0
Fetches old new source_old source_new answer =
    MatchResult answer (λ count. (bytes : List ℕ) × (length bytes ≡ count) × FetchesBytes old new source_old source_new bytes)
    (λ _. (new ≡ old) × Keeps source_old source_new)
