-- What the words of the command line mean. How a simple command's words are read is clap's own definition: `takes` (whether the
-- words are a use of it) and `fault_of` (which kinds of error they are, if they aren't).
use Rattle.std.specs.Prelude.{◌≡◌, ◌≢◌, ◌⊎◌, ◌==◌, ◌||◌, Bool, true, false, List, [], ◌∷◌, ◌++◌, ⊤, codes, map}
use Rattle.std.specs.List.{list_any}
use Rattle.std.specs.Str.{bytes_eq}
use Rattle.clap.specs.Walk.{Text}
use Rattle.clap.specs.Takes.{takes}
use Rattle.clap.specs.Faults.{fault_of}
use Rattle.clap.specs.Kinds.{Kinds, IsAmong}
use Rattle.clap.specs.declared.error.kind.ErrorKind.{ErrorKind}
use Rattle.clap.specs.declared.error.kind.ErrorKind.TheVariants.{DisplayHelp, DisplayVersion, OutOfMemory}
use Rattle.tigertopo_words.specs.declared.asked.Command.{Command}
use Rattle.tigertopo_words.specs.declared.stop.WordsStop.{WordsStop}
use Rattle.tigertopo_words.specs.declared.stop.WordsStop.TheVariants.{Usage, Help, Memory}
use Rattle.tigertopo_words.specs.Commands.{command_line, commands, name_of}
use Rattle.tigertopo_words.specs.Requests.{named_command, IsWhole}
use Rattle.tigertopo_words.specs.Asked.{IsFor}

-- the words ask for the command: clap has no error for them, of any kind, and the command that they name, with what they give
-- for its arguments, is a request for it
pub record AskFor (words : List Text) (command : Command) : Type 0 where
  pub taken : fault_of command_line words ≡ []
  pub asked : IsFor (named_command words) command

-- the words are a use of a command: they are taken, and name a command of the program and what it wants
pub record AreAUse (words : List Text) : Type 0 where
  pub taken : takes command_line words ≡ true
  pub whole : IsWhole (named_command words)

-- the names that a first word may have: those of the commands, and clap's own help
abbrev pub first_names : List Text
first_names = map name_of commands ++ codes "help" ∷ []

-- does the word begin with a hyphen, as options do
abbrev pub is_option : Text → Bool
is_option [] = false
is_option (first ∷ rest) = first == 45

-- may the words be a use of a command, or a wish for help or for the version, by the first of them
abbrev pub may_be_use : List Text → Bool
may_be_use [] = false
may_be_use (first ∷ rest) = is_option first || list_any (bytes_eq first) first_names

-- an error of this kind answers a wish, for help or for the version
abbrev pub IsAnswer : ErrorKind → Type 0
IsAnswer kind = (kind ≡ DisplayHelp) ⊎ (kind ≡ DisplayVersion)

-- what an error of this kind makes of the words: a want of memory is told of no mistake
abbrev pub IsStopOf : ErrorKind → WordsStop → Type 0
IsStopOf kind (Usage text) = (kind ≢ OutOfMemory) × (¬ IsAnswer kind)
IsStopOf kind (Help text) = (kind ≢ OutOfMemory) × IsAnswer kind
IsStopOf kind Memory = (kind ≡ OutOfMemory) ⊎ IsAnswer kind

-- the words are told to be no use of a command
abbrev pub IsUsage : WordsStop → Type 0
IsUsage (Usage text) = ⊤
IsUsage (Help text) = ⊥
IsUsage Memory = ⊥

-- one of the kinds is a mistake
abbrev pub HasMistake : Kinds → Type 0
HasMistake kinds = (kind : ErrorKind) × IsAmong kind kinds × (¬ IsAnswer kind)

-- one of the kinds answers a wish
abbrev pub HasAnswer : Kinds → Type 0
HasAnswer kinds = (kind : ErrorKind) × IsAmong kind kinds × IsAnswer kind

-- Why the words make no command: they are no use of a command, and either a mistake, a wish for help or for the version, or
-- taken by clap, as those with a number, a point or a CENID that isn't spelt as one, with --most or --skip-refused and no --all, or that ask for a picture with
-- --faces and no --faults; or memory was refused, and the first of them doesn't show that they are no use of a command.
abbrev pub StopsPlanning : List Text → WordsStop → Type 0
StopsPlanning words (Usage text) = (¬ AreAUse words) × (HasMistake (fault_of command_line words) ⊎ (fault_of command_line words ≡ []))
StopsPlanning words (Help text) = (¬ AreAUse words) × HasAnswer (fault_of command_line words)
StopsPlanning words Memory = may_be_use words ≡ true
