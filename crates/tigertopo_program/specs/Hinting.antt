-- What is said behind the outcome of a command.
use Rattle.std.specs.Prelude.{◌≡◌, ◌⊎◌, ℕ, nat_lt, List, map, string_bytes, Bool, true, false, Some, Result, Ok, Err}
use Rattle.tl_cert_output.specs.declared.stop.Stop.{Stop}
use Rattle.tl_cert_output.specs.declared.stop.Stop.TheVariants.{Device}
use Rattle.tl_cert_output.specs.Writing.{line_of}
use Rattle.tl_cert_output.specs.Stops.{StopsFor}
use Rattle.tigertopo_words.specs.declared.asked.Command.{Command}
use Rattle.tigertopo_words.specs.Asked.{made_of}
use Rattle.tigertopo_files.specs.Log.{LogsAgain}
use Rattle.tigertopo_files.specs.World.{World}
use Rattle.tigertopo_faults.specs.Hint.Again.{FailsAgain}
use Rattle.tigertopo_faults.specs.Hint.Advice.{Asker, asker}
use Rattle.tigertopo_faults.specs.Hint.Hints.{trouble_text}
use Rattle.tigertopo_faults.specs.Hint.Telling.{TellsHint, TellsUnread}
use Rattle.tl_cert_output.specs.Streams.{Stream, Tries}
use Rattle.tigertopo_program.specs.declared.answer.Answer.{Answer}
use Rattle.tigertopo_program.specs.Commands.{names_read}

-- what is done behind an outcome that was told: with files, and with the error output
pub record Behind : Type 1 where
  pub files : World
  pub err : Stream

abbrev pub behind : World → Stream → Behind
behind files err = record { files = files; err = err }

-- nothing was done with files
pub record Untouched (w : World) : Type 0 where
  pub stays : w.after ≡ w.before
  pub logged : w.knows ≡ true → w.logged ≡ w.log

-- nothing is
pub record NothingBehind (b : Behind) : Type 0 where
  pub same : b.err.same
  pub untouched : Untouched b.files

-- who asks: the words that were given, and how the command reads records
abbrev pub asker_of : List (List ℕ) → Command → Asker
asker_of words command = asker words command.options

-- the names of the files of records
abbrev pub record_names : Command → List (List ℕ)
record_names command = map string_bytes command.files.items

-- why the file that the command makes couldn't be made was said, where it isn't known what is done with files
pub record TellsObstacle (b : Behind) (command : Command) (stop : Stop) : Type 0 where
  pub device : stop ≡ Device
  pub unknown : b.files.knows ≡ true → ⊥
  pub name : List ℕ
  pub made : made_of command.asked ≡ Some name
  pub words : List ℕ
  pub told : Tries b.err (line_of (trouble_text name words))

-- what helps was said behind a stop, of the files as they stand; or nothing was, since memory was refused for it or a file can't be read
-- again
abbrev pub SaysBehindStop : Behind → List (List ℕ) → Command → Stop → Result (Unit {0}) Stop → Type 0
SaysBehindStop b words command stop (Ok done) =
    TellsHint stop (asker_of words command) b.files.before (names_read command) (Tries b.err) ⊎ TellsObstacle b command stop
SaysBehindStop b words command stop (Err why) = b.err.same × StopsFor (FailsAgain b.files (names_read command)) why

-- is this the status of an answer
abbrev pub is_answer : ℕ → Bool
is_answer status = nat_lt status 4

-- where an answer was told it was said what files of records hold that hold none of type 1; nothing is behind another outcome
abbrev pub SaysUnread : (told : Bool) → Behind → Asker → List (List ℕ) → Type 0
SaysUnread true b by names = b.files.knows ≡ true → TellsUnread by b.files.before names (Tries b.err)
SaysUnread false b by names = b.err.same

-- what helps was said where nothing stopped the command; or nothing was, for such a reason
abbrev pub SaysBehindStatus : Behind → List (List ℕ) → Command → ℕ → Result (Unit {0}) Stop → Type 0
SaysBehindStatus b words command status (Ok done) = SaysUnread (is_answer status) b (asker_of words command) (record_names command)
SaysBehindStatus b words command status (Err why) = b.err.same × StopsFor (FailsAgain b.files (record_names command)) why

abbrev pub SaysBehind : Behind → List (List ℕ) → Command → ℕ → Result Answer Stop → Result (Unit {0}) Stop → Type 0
SaysBehind b words command status (Ok answer) = SaysBehindStatus b words command status
SaysBehind b words command status (Err stop) = SaysBehindStop b words command stop

-- that was said, and files were read for it at most
pub record Hints (b : Behind) (says : Result (Unit {0}) Stop → Type 0) (result : Result (Unit {0}) Stop) : Type 0 where
  pub said : says result
  pub stays : b.files.after ≡ b.files.before
  pub logged : b.files.knows ≡ true → LogsAgain b.files.log b.files.logged result

-- so it is behind what is answered to a command that these words ask for, with this status, whatever came of the hint
abbrev pub HintsBy : Behind → List (List ℕ) → Command → ℕ → Result Answer Stop → Type 0
HintsBy b words command status answer = (result : Result (Unit {0}) Stop) × Hints b (SaysBehind b words command status answer) result
