-- Command lines that are put together.
use Rattle.std.proofs.lemmas.List.{map_push, map_more, take_all}
use Rattle.std.proofs.Common.{◌≡◌, ℕ, ◌+◌, ◌<◌, ◌≤◌, Bool, List, [], ◌∷◌, ◌++◌, length, get_or, take, map, Result, Ok, Err, false, ◌||◌, sym, ap, ap₂, ◌∙◌}
use Rattle.std.specs.Prelude.{IfOk}
use Rattle.clap.specs.Simple.{App, app_of, app_of_fields, with_rule, with_subcommand}
use Rattle.clap.specs.Walk.{Rule, Text}
use Rattle.clap.specs.Words.{AddsArg, AddsInTurn, AddsSubcommand}
use Rattle.clap.specs.declared.builder.arg.Arg.{Arg}
use Rattle.clap.specs.declared.builder.command.Command.{Command}
use Rattle.clap.specs.declared.builder.command.Command.TheViews.{out-Command}
use Rattle.clap.specs.declared.builder.command.Command.TheOpen.{Command-F}
use Rattle.tigertopo_words.specs.Commands.{with_commands, with_rules}
use Rattle.tigertopo_words.specs.Keeping.{IsLocal, OnMade, rule_for, row_given, told_of, row_told, rule_told, argument_told}
use Rattle.tigertopo_words.specs.declared.table.Argument.{Argument}
use Rattle.tigertopo_words.specs.declared.table.Row.{Row}

-- a command whose settings are those of another, but for texts that are printed
pub same_app : {app : App} {old : Command} (new : Command) (fields : Command-F Command) → out-Command new ≡ fields
    → app_of_fields fields ≡ app_of old → fields.has_globals ≡ (out-Command old).has_globals → IsLocal app old → IsLocal app new
same_app new fields is shape globals known = record {
  shape = ap app_of_fields is ∙ shape ∙ known.shape;
  local = ap (λ (f : Command-F Command). f.has_globals) is ∙ globals ∙ known.local;
}

stays_local : {old new : Command} {argument : Arg} → AddsArg old argument new → argument.global ≡ false
    → (out-Command old).has_globals ≡ false → (out-Command new).has_globals ≡ false
stays_local added local known = added.globals ∙ ap₂ ◌||◌ known local

first_same : {A : Type 0} (x y : A) (xs ys : List A) → x ∷ xs ≡ y ∷ ys → x ≡ y
first_same x y xs ys e = cc e

rest_same : {A : Type 0} (x y : A) (xs ys : List A) → x ∷ xs ≡ y ∷ ys → xs ≡ ys
rest_same x y xs ys e = cc e

-- one more of some that are made one after the other
pub each_more : {X Y Z : Type 0} (f : X → Z) (g : Y → Z) (made more : List X) (wanted : List Y) (i : ℕ) (d : Y) (x : X) → i < length wanted → more ≡ made ++ x ∷ [] → f x ≡ g (get_or wanted i d)
    → map f made ≡ map g (take i wanted) → map f more ≡ map g (take (i + 1) wanted)
each_more f g made more wanted i d x low is here before =
    ap (map f) is ∙ map_push f made x ∙ ap₂ (λ front last. front ++ last ∷ []) before here ∙ sym (map_more g wanted i d low)

-- all of them
pub each_all : {X Y Z : Type 0} (f : X → Z) (g : Y → Z) (made : List X) (wanted : List Y) (i : ℕ) → length wanted ≤ i → map f made ≡ map g (take i wanted) → map f made ≡ map g wanted
each_all f g made wanted i past before = before ∙ ap (map g) (take_all i wanted past)

-- arguments that are added in turn
pub args_in_turn : (old new : Command) (args : List Arg) (arguments : List Argument) → AddsInTurn AddsArg old args new → map rule_told args ≡ map argument_told arguments → (out-Command old).has_globals ≡ false
    → told_of new ≡ (with_rules (app_of old) (map rule_for arguments), false)
args_in_turn old new [] [] same told local = ap told_of (sym same) ∙ ap (λ (globals : Bool). (app_of old, globals)) local
args_in_turn old new [] (x ∷ rest) same told local = absurd (cc told)
args_in_turn old new (arg ∷ args) [] added told local = absurd (cc told)
args_in_turn old new (arg ∷ args) (x ∷ rest) added told local =
    let here = first_same (rule_told arg) (argument_told x) _ _ told in
    let plain : arg.global ≡ false = ap (λ (p : Rule × Bool). p.1) here in
    args_in_turn added.0 new args rest added.2 (rest_same (rule_told arg) (argument_told x) _ _ told) (stays_local added.1 plain local)
    ∙ ap (λ (app : App). (with_rules app (map rule_for rest), false)) (added.1.shape plain ∙ ap (with_rule (app_of old)) (ap (λ (p : Rule × Bool). p.0) here))

-- commands that are
pub commands_in_turn : (old new : Command) (made : List Command) (rows : List Row) → AddsInTurn AddsSubcommand old made new → map told_of made ≡ map row_told rows
    → app_of new ≡ with_commands (app_of old) (map row_given rows)
commands_in_turn old new [] [] same told = ap app_of (sym same)
commands_in_turn old new [] (row ∷ rest) same told = absurd (cc told)
commands_in_turn old new (command ∷ made) [] added told = absurd (cc told)
commands_in_turn old new (command ∷ made) (row ∷ rest) added told =
    let here = first_same (told_of command) (row_told row) _ _ told in
    commands_in_turn added.0 new made rest added.2 (rest_same (told_of command) (row_told row) _ _ told)
    ∙ ap (λ (app : App). with_commands app (map row_given rest))
    (added.1.shape (ap (λ (p : App × Bool). p.1) here) ∙ ap (λ (app : App). with_subcommand (app_of old) app.top) (ap (λ (p : App × Bool). p.0) here))

-- a program with all commands
pub whole_made : {E : Type 0} (first last : Result Command E) (rows : List (Text × List Rule)) (app : App) → IfOk first (λ program. app_of program ≡ app)
    → IfOk last (λ whole. OnMade first (λ p. app_of whole ≡ with_commands (app_of p) rows)) → IfOk last (λ whole. app_of whole ≡ with_commands app rows)
whole_made first (Err error) rows app is all = tt
whole_made (Err error) (Ok last) rows app is all = absurd all
whole_made (Ok first) (Ok last) rows app is all = all ∙ ap (λ (a : App). with_commands a rows) is
