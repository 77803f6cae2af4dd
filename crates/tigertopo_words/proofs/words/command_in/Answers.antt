use Rattle.std.proofs.Common.{subst, map}
use Rattle.clap.specs.Simple.{subcommand_rows_of}
use Rattle.tigertopo_words.specs.Asked.{IsCommandOf}
use Rattle.tigertopo_words.proofs.WordsLemmas.{one_command, no_command}
use Rattle.tigertopo_words.proofs.FirstWord.{stops_may, taken_may}
use Rattle.tigertopo_words.proofs.words.command_in.Goals as goal

pub returns-in-None-clause-stops : goal.returns-in-None-clause-stops
returns-in-None-clause-stops g c =
    let found = subcommand_rows_of c.args.matches.now in
    no_command (map g.S.AsStr.text c.args.words.now) found c.misuse.result c.requires.found (subst (IsCommandOf found) c.in-None.is c.in_ok-command.ensures) c.requires.taken c.misuse.ensures.usage

pub returns-in-Some-clause-asked : goal.returns-in-Some-clause-asked
returns-in-Some-clause-asked g c =
    let found = subcommand_rows_of c.args.matches.now in
    one_command (map g.S.AsStr.text c.args.words.now) found c.in-Some.command c.requires.found (subst (IsCommandOf found) c.in-Some.is c.in_ok-command.ensures) c.requires.taken

pub returns-in_err-command-clause-stops : goal.returns-in_err-command-clause-stops
returns-in_err-command-clause-stops g c =
    let words = map g.S.AsStr.text c.args.words.now in
    stops_may c.from_residual.result words c.from_residual.ensures.1 (taken_may words c.requires.taken)
