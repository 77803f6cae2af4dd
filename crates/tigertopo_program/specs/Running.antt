-- What becomes of a command: what is told, with which status, and what is done with files.
use Rattle.std.specs.Prelude.{◌≡◌, ◌⊎◌, ℕ, ◌-◌, Bool, true, List, length, Option, Some, None, Result, Err, option_map, slice_get, string_bytes}
use Rattle.tl_cert_output.specs.declared.stop.Stop.{Stop}
use Rattle.tl_cert_output.specs.Stops.{StopsFor}
use Rattle.tl_cert_output.specs.Streams.{Stream}
use Rattle.tigertopo_words.specs.declared.asked.Command.{Command}
use Rattle.tigertopo_words.specs.Asked.{made_of, cert_of}
use Rattle.tigertopo_files.specs.Files.{Under, IsRoom}
use Rattle.tigertopo_files.specs.declared.beginning.FileKind.{FileKind}
use Rattle.tigertopo_files.specs.declared.file_system.Room.{Room}
use Rattle.tigertopo_files.specs.declared.file_system.Room.TheVariants.{Free}
use Rattle.tigertopo_files.specs.Log.{Log}
use Rattle.tigertopo_files.specs.World.{World, Does, MayMake}
use Rattle.tigertopo_program.specs.declared.answer.Answer.{Answer}
use Rattle.tigertopo_program.specs.Answers.{IsSaid}
use Rattle.tigertopo_program.specs.Program.{CommandAnswers, CommandStops}
use Rattle.tigertopo_program.specs.Telling.{Tells}
use Rattle.tigertopo_program.specs.Rooms.{RefusesName}
use Rattle.tigertopo_program.specs.Commands.{names_read, inputs_of, kind_of}
use Rattle.tigertopo_program.specs.Hinting.{Behind, HintsBy, NothingBehind, Untouched}

-- what became of the two outputs
pub record Streams : Type 1 where
  pub out : Stream
  pub err : Stream

abbrev pub streams : Stream → Stream → Streams
streams out err = record { out = out; err = err }

-- it isn't known what stands under the name of the file that is made
abbrev pub IsUnknown : Under → Command → Type 0
IsUnknown under command = (name : List ℕ) × (made_of command.asked ≡ Some name) × (under name ≡ None)

-- the files of a command were read and made, and this is answered
pub record Performed (command : Command) (w : World) (answer : Result Answer Stop) : Type 0 where
  pub does : Does w (names_read command) (made_of command.asked) (IsSaid (CommandAnswers command w)) (CommandStops command w) answer
  pub free : MayMake w.before (made_of command.asked) (names_read command) (kind_of command.asked)

-- the answer to whether the file that a command makes may be made
abbrev pub IsRoomWith : Under → (made : Option (List ℕ)) → (read : List (List ℕ)) → FileKind → Room → Type 0
IsRoomWith under None read kind room = room ≡ Free
IsRoomWith under (Some name) read kind room = IsRoom under name read kind room

abbrev pub IsRoomFor : Under → Command → Room → Type 0
IsRoomFor under command room = IsRoomWith under (made_of command.asked) (inputs_of command) (kind_of command.asked) room

-- the file that the command makes may not be made, and that was told
pub record Refused (command : Command) (w : World) (s : Streams) (status : ℕ) : Type 0 where
  pub name : List ℕ
  pub made : made_of command.asked ≡ Some name
  pub refuses : RefusesName s.out s.err status (kind_of command.asked) (IsRoom w.before name (inputs_of command) (kind_of command.asked))
  pub untouched : Untouched w

-- nothing was begun: memory was refused, or it can't be told whether the file may be made
pub record Unbegun (command : Command) (w : World) (answer : Result Answer Stop) : Type 0 where
  pub stop : Stop
  pub is : answer ≡ Err stop
  pub may : StopsFor (IsUnknown w.before command) stop
  pub untouched : Untouched w

-- the name of the file that is read last: that of the certificate, or the last of the records
abbrev pub last_with : Option (List ℕ) → Option (List ℕ) → Option (List ℕ)
last_with None last = last
last_with (Some cert) last = Some cert

abbrev pub last_of : Command → Option (List ℕ)
last_of command = last_with (cert_of command.asked) (option_map string_bytes (slice_get command.files.items (length command.files.items - 1)))

-- how far reading is is shown where that is asked for
abbrev pub watch_with : Bool → Option (List ℕ) → Log → Log
watch_with true (Some name) log = record log { watched = Some name }
watch_with progress last log = log

abbrev pub watched : Command → Log → Log
watched command log = watch_with command.progress (last_of command) log

-- behind this how far reading is is shown where that is asked for, and nothing else was done
pub record Watches (command : Command) (w mid : World) : Type 0 where
  pub before : mid.before ≡ w.before
  pub after : mid.after ≡ w.after
  pub logged : mid.logged ≡ w.logged
  pub knows : mid.knows ≡ w.knows
  pub log : w.knows ≡ true → mid.log ≡ watched command w.log

-- what is answered to a command, or why nothing is: it was performed, behind that, or nothing was begun
abbrev pub IsAnswered : Command → World → Result Answer Stop → Type 0
IsAnswered command w answer =
    Unbegun command w answer ⊎ ((mid : World) × Watches command w mid × (Unbegun command mid answer ⊎ Performed command mid answer))

-- that was told, on the error output only where what is made may be no file, and what helps was said behind it
pub record AnswersAndHints (words : List (List ℕ)) (command : Command) (w : World) (s : Streams) (b : Behind) (status : ℕ) : Type 0 where
  pub answer : Result Answer Stop
  pub answered : IsAnswered command w answer
  pub aside : Bool
  pub told : Tells aside s.out s.err status answer
  pub unknown : aside ≡ true → IsUnknown w.before command
  pub hinted : HintsBy b words command status answer

-- what becomes of a command that these words ask for: it is answered, or the file that it makes may not be made
abbrev pub Runs : List (List ℕ) → Command → World → Streams → Behind → ℕ → Type 0
Runs words command w s b status =
    AnswersAndHints words command w s b status ⊎ ((mid : World) × Watches command w mid × Refused command mid s status × NothingBehind b)
