-- What became of an output.
use Rattle.std.specs.Prelude.{◌≡◌, ◌⊎◌, ℕ, List, Option}
use Rattle.tl_cert_output.specs.Writing.{Writes, WritesSome}

-- this text was written, or a write failed behind a beginning of it, or the output is as it was
pub record Stream : Type 1 where
  pub wrote : List ℕ → Type 0
  pub part : List ℕ → Type 0
  pub same : Type 0

-- the same of a sink, by what it says of itself
abbrev pub stream : {S : Type 0} → (S → Option (List ℕ)) → (S → ℕ) → (old new : S) → Stream
stream contents failures old new = record { wrote = Writes contents failures old new; part = WritesSome contents failures old new; same = new ≡ old }

-- this text was written, or the write of it failed
abbrev pub Tries : Stream → List ℕ → Type 0
Tries s text = s.wrote text ⊎ s.part text
