-- What a sink was given of a certificate's text.
use Rattle.std.specs.Prelude.{ℕ, List, Option, Result, Ok, Err}
use Rattle.tl_cert_output.specs.Writing.{Writes, WritesSome}
use Rattle.tl_cert.specs.declared.stop.WriteStop.{WriteStop}
use Rattle.tl_cert.specs.declared.stop.WriteStop.TheVariants.{Device}

-- a certificate of this text was written whole, or a write failed behind a beginning of the text
abbrev pub WritesCertificate : {S : Type 0} → (S → Option (List ℕ)) → (S → ℕ) → S → S → List ℕ → Result (Unit {0}) WriteStop → Type 0
WritesCertificate contents failures old new text (Ok done) = Writes contents failures old new text
WritesCertificate contents failures old new text (Err Device) = WritesSome contents failures old new text
