-- What words make a command, and why others don't.
use Rattle.std.proofs.Common.{◌≡◌, ◌≢◌, ◌⊎◌, inl, inr, true, List, [], Option, Some, None, refl, sym, subst}
use Rattle.clap.specs.Walk.{Text, Row}
use Rattle.clap.specs.Simple.{is_simple, subcommand_of}
use Rattle.clap.specs.Takes.{takes}
use Rattle.clap.specs.Faults.{fault_of, is_simple_and_free}
use Rattle.clap.specs.Kinds.{Kinds, IsAmong}
use Rattle.clap.specs.declared.error.kind.ErrorKind.{ErrorKind}
use Rattle.clap.specs.declared.error.kind.ErrorKind.TheVariants.{OutOfMemory}
use Rattle.clap.proofs.OnLiterals.{clap_on_literals}
use Rattle.tigertopo_words.specs.declared.asked.Command.{Command}
use Rattle.tigertopo_words.specs.declared.stop.WordsStop.{WordsStop}
use Rattle.tigertopo_words.specs.declared.stop.WordsStop.TheVariants.{Usage, Help, Memory}
use Rattle.tigertopo_words.specs.Commands.{command_line}
use Rattle.tigertopo_words.specs.Requests.{IsWhole}
use Rattle.tigertopo_words.specs.Asked.{IsCommandOf}
use Rattle.tigertopo_words.specs.CommandLine.{AskFor, IsStopOf, IsUsage, StopsPlanning}

pub is_simple-command_line : is_simple command_line ≡ true
unfolding clap_on_literals
is_simple-command_line = refl

pub is_free-command_line : is_simple_and_free command_line ≡ true
unfolding clap_on_literals
is_free-command_line = refl

-- an error of another kind than a want of memory has one of the kinds that the words are a fault of
among : (kinds : Kinds) (kind : ErrorKind) → kind ≢ OutOfMemory → (kind ≡ OutOfMemory) ⊎ IsAmong kind kinds → IsAmong kind kinds
among kinds kind other (inl memory) = absurd (other memory)
among kinds kind other (inr one) = one

-- no command is made where clap gives an error, and memory wasn't refused
pub stops_for : (words : List Text) (kind : ErrorKind) (stop : WordsStop) → stop ≢ Memory → IsStopOf kind stop
    → (takes command_line words ≡ true → kind ≡ OutOfMemory)
    → (kind ≡ OutOfMemory) ⊎ IsAmong kind (fault_of command_line words) → StopsPlanning words stop
stops_for words kind (Usage text) told is passes kinds =
    (λ use_of. is.0 (passes use_of.taken), inl (kind, among _ kind is.0 kinds, is.1))
stops_for words kind (Help text) told is passes kinds = (λ use_of. is.0 (passes use_of.taken), (kind, among _ kind is.0 kinds, is.1))
stops_for words kind Memory told is passes kinds = absurd (told refl)

-- words that clap takes, and that name a command with what it wants
pub one_command : (words : List Text) (found : Option (Text × List Row)) (made : Command) → found ≡ subcommand_of command_line words
    → IsCommandOf found (Some made) → fault_of command_line words ≡ [] → AskFor words made
one_command words found made is for right = record { taken = right; asked = subst (λ f. IsCommandOf f (Some made)) is for }

-- words that clap takes, and that name none
pub no_command : (words : List Text) (found : Option (Text × List Row)) (stop : WordsStop) → found ≡ subcommand_of command_line words
    → IsCommandOf found None → fault_of command_line words ≡ [] → IsUsage stop → StopsPlanning words stop
no_command words found (Usage text) is none right usage = (λ use_of. none (subst (λ f. IsWhole f) (sym is) use_of.whole), inr right)
no_command words found (Help text) is none right usage = absurd usage
no_command words found Memory is none right usage = absurd usage
