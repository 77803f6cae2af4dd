-- What a sink has taken: its contents and its count of failed writes, before and after.
use Rattle.std.specs.Prelude.{◌≡◌, ℕ, List, ◌∷◌, [], ◌++◌, take, Option, Result, MatchResult}
use Rattle.std.specs.Io.KnownBytes.{Appends}
use Rattle.tl_record.specs.Failures.{one_more}

-- an error says that one more write failed, and success that none did
abbrev pub CountsFailure : {T E : Type 0} → ℕ → ℕ → Result T E → Type 0
CountsFailure old new r = MatchResult r (λ _. new ≡ old) (λ _. new ≡ one_more old)

-- a write failed
abbrev pub FailsToWrite : {S : Type 0} → (S → ℕ) → S → S → Type 0
FailsToWrite failures old new = failures new ≡ one_more (failures old)

-- the sink took this text, all of it and nothing else, and no write failed
pub record Writes {S : Type 0} (contents : S → Option (List ℕ)) (failures : S → ℕ) (old new : S) (text : List ℕ) : Type 0 where
  pub grown : Appends (contents old) (contents new) text
  pub no_failure : failures new ≡ failures old

-- the sink took a beginning of the text and nothing else, and a write failed
pub record WritesSome {S : Type 0} (contents : S → Option (List ℕ)) (failures : S → ℕ) (old new : S) (text : List ℕ) : Type 0 where
  pub len : ℕ
  pub grown : Appends (contents old) (contents new) (take len text)
  pub failure : FailsToWrite failures old new

-- of what was held and the text behind it the sink took the front, and this is kept
pub record PassesOn (old new : Option (List ℕ)) (held kept text : List ℕ) : Type 0 where
  pub taken : List ℕ
  pub grown : Appends old new taken
  pub whole : taken ++ kept ≡ held ++ text

-- the same, and whatever the sink didn't take is lost
pub record PassesSome (old new : Option (List ℕ)) (held text : List ℕ) : Type 0 where
  pub lost : List ℕ
  pub passes : PassesOn old new held lost text

-- an error says that the rest is lost
abbrev pub TriesToPassOn : {T E : Type 0} → Option (List ℕ) → Option (List ℕ) → List ℕ → List ℕ → List ℕ → Result T E → Type 0
TriesToPassOn old new held kept text r = MatchResult r (λ _. PassesOn old new held kept text) (λ _. PassesSome old new held text)

-- a text as a line: a line feed stands behind it
abbrev pub line_of : List ℕ → List ℕ
line_of text = text ++ 10 ∷ []
