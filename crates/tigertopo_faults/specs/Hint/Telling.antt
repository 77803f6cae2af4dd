-- What is told behind a stop, and behind an answer. `told` says of a text that it was written; nothing is claimed of names under which what stands
-- isn't known.
use Rattle.std.specs.Prelude.{◌≡◌, ℕ, List, [], ◌∷◌, Option, None, Some, IfSome, map}
use Rattle.tl_record.specs.declared.stop.Cause.{Cause}
use Rattle.tl_cert_output.specs.declared.stop.Stop.{Stop}
use Rattle.tl_cert_output.specs.declared.stop.Stop.TheVariants.{Record, Memory, Device, Budget}
use Rattle.tl_cert_output.specs.Writing.{line_of}
use Rattle.tigertopo_files.specs.Files.{Under, bytes_under, trouble_of}
use Rattle.tigertopo_faults.specs.Hint.Advice.{Asker}
use Rattle.tigertopo_faults.specs.Hint.Hints.{refusal_at, trouble_text}
use Rattle.tigertopo_faults.specs.Hint.Unread.{unread_text}

-- files of these bytes stand under the names
abbrev pub HaveTexts : Under → List (List ℕ) → List (List ℕ) → Type 0
HaveTexts under names texts = map (bytes_under under) names ≡ map Some texts

-- where the text of each file is known, it is told where the refused line stands
abbrev pub TellsRefusal : Asker → Under → List (List ℕ) → ℕ × Cause → (List ℕ → Type 0) → Type 0
TellsRefusal by under names refusal told =
    (texts : List (List ℕ)) → HaveTexts under names texts → told (refusal_at by names texts refusal)

-- why a file can't be read is told, or where it can be, what is told of the later ones
abbrev pub TellsWords : List ℕ → Option (List ℕ) → (List ℕ → Type 0) → Type 0 → Type 0
TellsWords name None told later = later
TellsWords name (Some words) told later = told (line_of (trouble_text name words))

-- of the first name that can't be opened or read it is told why, and nothing where each can
abbrev pub TellsTrouble : Under → List (List ℕ) → (List ℕ → Type 0) → Type 0
TellsTrouble under [] told = told []
TellsTrouble under (name ∷ rest) told = IfSome (under name) (λ file. TellsWords name (trouble_of file) told (TellsTrouble under rest told))

-- what is told behind a stop: where a refused line stands, or which file failed and why, and else nothing
abbrev pub TellsHint : Stop → Asker → Under → List (List ℕ) → (List ℕ → Type 0) → Type 0
TellsHint (Record line cause) by under names told = TellsRefusal by under names (line, cause) told
TellsHint Memory by under names told = told []
TellsHint Device by under names told = TellsTrouble under names told
TellsHint Budget by under names told = told []

-- what is told behind an answer, where the text of each file of records is known
abbrev pub TellsUnread : Asker → Under → List (List ℕ) → (List ℕ → Type 0) → Type 0
TellsUnread by under names told = (texts : List (List ℕ)) → HaveTexts under names texts → told (unread_text by names texts)
