-- How texts are told.
use Rattle.std.proofs.Common.{◌≡◌, ◌≢◌, inl, inr, ℕ, Bool, false, List, [], ◌∷◌, length, Result, Ok, Err, sym, subst, ◌∙◌, append-nil}
use Rattle.std.specs.Prelude.{◌==◌, Option, IfErr}
use Rattle.std.specs.Io.KnownBytes.{Appends}
use Rattle.tl_cert_output.specs.declared.stop.Stop.{Stop}
use Rattle.tl_cert_output.specs.declared.stop.Stop.TheVariants.{Record, Memory, Device, Budget}
use Rattle.tl_cert_output.specs.Stops.{stop_text}
use Rattle.tl_cert_output.specs.Writing.{TriesToPassOn, CountsFailure, line_of}
use Rattle.tl_cert_output.specs.Texts.{PrintsText}
use Rattle.tl_cert_output.proofs.WritingLemmas.{writes_some}
use Rattle.tigertopo_program.specs.Texts.{stop_status}
use Rattle.tl_cert_output.specs.Streams.{Stream, stream, Tries}
use Rattle.tigertopo_program.specs.Telling.{TellsText}

-- a write of a text is tried
pub tries : {S T E : Type 0} (contents : S → Option (List ℕ)) (failures : S → ℕ) (old new : S) (text : List ℕ) (r : Result T E) → TriesToPassOn (contents old) (contents new) [] [] text r
    → CountsFailure (failures old) (failures new) r → Tries (stream contents failures old new) text
tries contents failures old new text (Ok done) passes counts =
    inl (record { grown = subst (Appends (contents old) (contents new)) (sym (append-nil passes.taken) ∙ passes.whole) passes.grown; no_failure = counts })
tries contents failures old new text (Err error) passes counts = inr (writes_some contents failures old new text passes counts)

-- so is that of a text that is printed
pub tries_text : {S T : Type 0} (contents : S → Option (List ℕ)) (failures : S → ℕ) (old new : S) (text : List ℕ) (r : Result T Stop) → PrintsText contents failures old new text r
    → IfErr r (λ stop. stop ≡ Device) → Tries (stream contents failures old new) text
tries_text contents failures old new text (Ok done) prints device = inl prints
tries_text contents failures old new text (Err (Record line cause)) prints device = absurd prints
tries_text contents failures old new text (Err Memory) prints device = absurd (cc device)
tries_text contents failures old new text (Err Device) prints device = inr prints
tries_text contents failures old new text (Err Budget) prints device = absurd prints

-- why a text wasn't written is told
pub text_stops : {S : Type 0} (contents : S → Option (List ℕ)) (failures : S → ℕ) (old new : S) (err : Stream) (status own : ℕ) (text : List ℕ) (stop : Stop)
    → PrintsText {T = Unit {0}} contents failures old new text (Err stop) → status ≡ stop_status stop → Tries err (line_of (stop_text stop)) → TellsText (stream contents failures old new) err status own text
text_stops contents failures old new err status own text (Record line cause) prints is told = absurd prints
text_stops contents failures old new err status own text Memory prints is told = inr (is, inr (told, prints))
text_stops contents failures old new err status own text Device prints is told = inr (is, inl (told, prints))
text_stops contents failures old new err status own text Budget prints is told = absurd prints

-- a text that is told to be none is none, and else it has a byte
pub not_empty : (bytes : List ℕ) (test : Bool) → test ≡ (length bytes == 0) → test ≡ false → bytes ≢ []
not_empty [] test is differs e = absurd (cc (sym differs ∙ is))
not_empty (byte ∷ rest) test is differs e = cc e
