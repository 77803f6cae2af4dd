use Rattle.std.proofs.Common.{◌≡◌, List, map, subst}
use Rattle.std.specs.Prelude.{IfOk}
use Rattle.clap.specs.Simple.{app_of}
use Rattle.clap.specs.Walk.{Rule, Text}
use Rattle.tigertopo_words.specs.Commands.{program, with_commands}
use Rattle.tigertopo_words.specs.Keeping.{row_given}
use Rattle.tigertopo_words.proofs.CommandsLemmas.{whole_made}
use Rattle.tigertopo_words.proofs.command_line.command.Goals as goal

pub returns-in-Ok : goal.returns-in-Ok
returns-in-Ok c =
    let rows = c.rows.result.now in
    subst (λ (given : List (Text × List Rule)). IfOk c.with_commands.result (λ command. app_of command ≡ with_commands program given)) c.rows.ensures.given
    (whole_made c.program.result c.with_commands.result (map row_given rows) program c.program.ensures (c.with_commands.ensures rows c.in-Ok.ensures))
