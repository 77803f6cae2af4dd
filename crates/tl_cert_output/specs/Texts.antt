-- What is answered where a text is printed.
use Rattle.std.specs.Prelude.{◌≡◌, ℕ, List, Option, Result, Ok, Err}
use Rattle.tl_cert_output.specs.declared.stop.Stop.{Stop}
use Rattle.tl_cert_output.specs.declared.stop.Stop.TheVariants.{Record, Memory, Device, Budget}
use Rattle.tl_cert_output.specs.Writing.{Writes, WritesSome}

-- the text was written; or a write failed behind a beginning of it; or memory was refused, and nothing was written
abbrev pub PrintsText : {S T : Type 0} → (S → Option (List ℕ)) → (S → ℕ) → (old new : S) → List ℕ → Result T Stop → Type 0
PrintsText contents failures old new text (Ok done) = Writes contents failures old new text
PrintsText contents failures old new text (Err (Record line cause)) = ⊥
PrintsText contents failures old new text (Err Memory) = new ≡ old
PrintsText contents failures old new text (Err Device) = WritesSome contents failures old new text
PrintsText contents failures old new text (Err Budget) = ⊥
