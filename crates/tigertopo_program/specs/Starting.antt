-- What the program answers to its words.
use Rattle.std.specs.Prelude.{◌≡◌, ◌⊎◌, ℕ, List, Result, Ok, Err, Vec, String, codes, map, string_bytes, ⊤}
use Rattle.std.specs.Global.{Global}
use Rattle.clap.specs.Walk.{Text}
use Rattle.tl_cert_output.specs.Writing.{line_of}
use Rattle.tl_cert_output.specs.declared.stop.Stop.TheVariants as stop
use Rattle.tigertopo_words.specs.declared.asked.Command.{Command}
use Rattle.tigertopo_words.specs.declared.stop.WordsStop.{WordsStop}
use Rattle.tigertopo_words.specs.declared.stop.WordsStop.TheVariants.{Usage, Help, Memory}
use Rattle.tigertopo_words.specs.CommandLine.{AskFor, StopsPlanning}
use Rattle.tigertopo_words.specs.Escapes.{ShowsNoEscape}
use Rattle.tigertopo_files.specs.World.{World}
use Rattle.tigertopo_program.specs.Telling.{TellsStop, TellsWordsStop}
use Rattle.tigertopo_program.specs.Hinting.{Behind, NothingBehind, Untouched}
use Rattle.tigertopo_program.specs.Running.{Streams, Runs}

-- why the words of the command line can't be read
abbrev pub IsUnread : WordsStop → Type 0
IsUnread (Usage text) = string_bytes text ≡ line_of (codes "error: a word of the command line is no UTF-8 text")
IsUnread (Help text) = ⊥
IsUnread Memory = ⊤

-- the words are no command, and why was told, or the help that they wish for
pub record Misses (words : List Text) (w : World) (s : Streams) (status : ℕ) : Type 0 where
  pub stop : WordsStop
  pub so : StopsPlanning words stop
  pub no_escape : ShowsNoEscape stop
  pub told : TellsWordsStop s.out s.err status stop
  pub untouched : Untouched w

-- what is answered to words: they ask for a command, which was run; or they are none, and nothing more is done
abbrev pub Starts : List Text → World → Streams → Behind → ℕ → Type 0
Starts words w s b status = ((command : Command) × AskFor words command × Runs words command w s b status) ⊎ (Misses words w s status × NothingBehind b)

-- the same where the words can't be read, or there are no keys for hashers: why was told
abbrev pub AnswersWords : Result (Vec (String Global) Global) WordsStop → World → Streams → Behind → ℕ → Type 0
AnswersWords (Ok words) w s b status =
    Starts (map string_bytes words.items) w s b status ⊎ (TellsStop s.out s.err status stop.Device × Untouched w × NothingBehind b)
AnswersWords (Err unread) w s b status = TellsWordsStop s.out s.err status unread × Untouched w × NothingBehind b
