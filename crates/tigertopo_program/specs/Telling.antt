-- How an answer is told, or why there is none.
use Rattle.std.specs.Prelude.{◌≡◌, ◌≢◌, ◌⊎◌, ℕ, Bool, true, false, List, [], Result, Ok, Err, string_bytes}
use Rattle.tl_cert_output.specs.Streams.{Stream, Tries}
use Rattle.tl_cert_output.specs.Writing.{line_of}
use Rattle.tl_cert_output.specs.Stops.{stop_text}
use Rattle.tl_cert_output.specs.declared.stop.Stop.{Stop}
use Rattle.tl_cert_output.specs.declared.stop.Stop.TheVariants.{Memory, Device}
use Rattle.tigertopo_words.specs.declared.stop.WordsStop.{WordsStop}
use Rattle.tigertopo_words.specs.declared.stop.WordsStop.TheVariants.{Usage, Help}
use Rattle.tigertopo_words.specs.declared.stop.WordsStop.TheVariants as words_stop
use Rattle.tigertopo_program.specs.declared.answer.Answer.{Answer}
use Rattle.tigertopo_program.specs.declared.usage.TheConstants.{NO_USE}
use Rattle.tigertopo_program.specs.Texts.{answer_status, answer_text, stop_status}

-- a text was written to the output, with the status that is its own; or the write failed, and that was told with the status 4; or
-- memory was refused for it, and nothing of it was written
abbrev pub TellsText : (out err : Stream) → (status own : ℕ) → List ℕ → Type 0
TellsText out err status own text =
    ((status ≡ own) × out.wrote text × err.same)
    ⊎ ((status ≡ 4) × ((Tries err (line_of (stop_text Device)) × out.part text) ⊎ (Tries err (line_of (stop_text Memory)) × out.same)))

-- why there is no answer was told, and nothing was written to the output
abbrev pub TellsStop : (out err : Stream) → ℕ → Stop → Type 0
TellsStop out err status stop = (status ≡ stop_status stop) × Tries err (line_of (stop_text stop)) × out.same

-- an answer was told on the error output, with its status, or a write of it failed
abbrev pub TellsAside : (err : Stream) → ℕ → Answer → Type 0
TellsAside err status answer =
    ((status ≡ answer_status answer) × err.wrote (answer_text answer)) ⊎ ((status ≡ 4) × (err.part (answer_text answer) ⊎ err.same))

-- an answer was told so where `aside` says so, and else on the output
abbrev pub TellsAnswer : (aside : Bool) → (out err : Stream) → ℕ → Answer → Type 0
TellsAnswer true out err status answer = out.same × TellsAside err status answer
TellsAnswer false out err status answer = TellsText out err status (answer_status answer) (answer_text answer)

-- an answer was told, or why there is none
abbrev pub Tells : (aside : Bool) → (out err : Stream) → ℕ → Result Answer Stop → Type 0
Tells aside out err status (Ok answer) = TellsAnswer aside out err status answer
Tells aside out err status (Err stop) = TellsStop out err status stop

-- what is wrong with words, or the help that they wish for, was told
abbrev pub TellsWordsStop : (out err : Stream) → ℕ → WordsStop → Type 0
TellsWordsStop out err status (Usage text) =
    (status ≡ 64) × (Tries err NO_USE.now ⊎ ((string_bytes text ≢ []) × Tries err (string_bytes text))) × out.same
TellsWordsStop out err status (Help text) =
    TellsStop out err status Memory ⊎ ((string_bytes text ≢ []) × TellsText out err status 0 (string_bytes text))
TellsWordsStop out err status words_stop.Memory = TellsStop out err status Memory
