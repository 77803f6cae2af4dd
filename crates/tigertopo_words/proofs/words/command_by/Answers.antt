use Rattle.std.proofs.Common.{◌≡◌, true, [], ap, subst, ◌∙◌, map}
use Rattle.clap.specs.Values.{kind_of}
use Rattle.clap.specs.Simple.{App, is_simple, subcommand_of, subcommand_rows_of}
use Rattle.clap.specs.Takes.{takes}
use Rattle.clap.specs.Faults.{fault_of, is_simple_and_free}
use Rattle.clap.specs.Kinds.{HasKind}
use Rattle.clap.specs.declared.error.kind.ErrorKind.TheVariants.{OutOfMemory}
use Rattle.tigertopo_words.proofs.WordsLemmas.{is_free-command_line, is_simple-command_line}
use Rattle.tigertopo_words.proofs.words.command_by.Goals as goal

pub command_in-requires-clause-found : goal.command_in-requires-clause-found
command_in-requires-clause-found g c =
    let words = map g.S.AsStr.text c.args.words.now in
    subst (λ (app : App). is_simple app ≡ true → subcommand_rows_of c.in-Ok.matches ≡ subcommand_of app words) c.requires (λ simple. (c.in-Ok.ensures.ok.2 simple).1) is_simple-command_line

pub command_in-requires-clause-taken : goal.command_in-requires-clause-taken
command_in-requires-clause-taken g c =
    let words = map g.S.AsStr.text c.args.words.now in
    subst (λ (app : App). fault_of app words ≡ []) c.requires (c.in-Ok.ensures.kinds (ap is_simple_and_free c.requires ∙ is_free-command_line))

pub stop_by-requires-clause-passes : goal.stop_by-requires-clause-passes
stop_by-requires-clause-passes g c =
    let words = map g.S.AsStr.text c.args.words.now in
    let error = c.in-Err.error in
    subst (λ (app : App). takes app words ≡ true → kind_of error ≡ OutOfMemory) c.requires c.in-Err.ensures.passes

pub stop_by-requires-clause-kinds : goal.stop_by-requires-clause-kinds
stop_by-requires-clause-kinds g c =
    let words = map g.S.AsStr.text c.args.words.now in
    let error = c.in-Err.error in
    subst (λ (app : App). HasKind (fault_of app words) error) c.requires (c.in-Err.ensures.kinds (ap is_simple_and_free c.requires ∙ is_free-command_line))
