-- Kept on the way: commands and their arguments as the code tells clap of them. No public contract cites this file.
use Rattle.std.specs.Prelude.{◌≡◌, Bool, false, List, [], ◌∷◌, Option, Some, None, map, Result, Ok, Err, if◌then◌else◌}
use Rattle.std.specs.Str.{bytes_eq}
use Rattle.clap.specs.Simple.{App, app_of, new_app}
use Rattle.clap.specs.Walk.{Rule, Text, rule_of}
use Rattle.clap.specs.declared.builder.arg.Arg.{Arg}
use Rattle.clap.specs.declared.builder.command.Command.{Command}
use Rattle.clap.specs.declared.builder.command.Command.TheViews.{out-Command}
use Rattle.tigertopo_words.specs.declared.table.Argument.{Argument}
use Rattle.tigertopo_words.specs.declared.table.Kind.{Kind}
use Rattle.tigertopo_words.specs.declared.table.Kind.TheVariants.{Switch, Value, Needed, Placed, Several}
use Rattle.tigertopo_words.specs.declared.table.Named.{Named}
use Rattle.tigertopo_words.specs.declared.table.Row.{Row}
use Rattle.tigertopo_words.specs.Commands.{switch, value, needed, placed, several, with_rules}

-- how an argument of this kind is written
abbrev pub rule_by : Kind → Text → Rule
rule_by Switch = switch
rule_by (Value shown) = value
rule_by (Needed shown) = needed
rule_by (Placed shown) = placed
rule_by (Several shown) = several

abbrev pub rule_for : Argument → Rule
rule_for argument = rule_by argument.kind argument.name.now

-- a row of the table
abbrev pub row_given : Row → Text × List Rule
row_given row = (row.name.now, map rule_for row.arguments.now)

-- the command of this name, where one of these has it
abbrev pub named_among : Text → List Row → Option Named
named_among name [] = None
named_among name (row ∷ rest) = if bytes_eq name row.name.now then Some row.named else named_among name rest

-- what clap is told of a command and of an argument, and whether something of it holds for others too: of what it was told,
-- and of these, of which nothing does
abbrev pub told_of : Command → App × Bool
told_of command = (app_of command, (out-Command command).has_globals)

abbrev pub row_told : Row → App × Bool
row_told row = (with_rules (new_app row.name.now) (map rule_for row.arguments.now), false)

abbrev pub rule_told : Arg → Rule × Bool
rule_told arg = (rule_of arg, arg.global)

abbrev pub argument_told : Argument → Rule × Bool
argument_told argument = (rule_for argument, false)

-- clap was told of this command, and of no argument of it that holds for others too
pub record IsLocal (app : App) (command : Command) : Type 0 where
  pub shape : app_of command ≡ app
  pub local : (out-Command command).has_globals ≡ false

-- a command was made, and it is so
abbrev pub OnMade : {E : Type 0} → Result Command E → (Command → Type 0) → Type 0
OnMade (Ok command) P = P command
OnMade (Err error) P = ⊥
