use Rattle.std.proofs.lemmas.Result.{IfOk-weaker}
use Rattle.tigertopo_words.proofs.CommandsLemmas.{commands_in_turn}
use Rattle.tigertopo_words.proofs.command_line.with_commands.Goals as goal

pub returns-in-Ok : goal.returns-in-Ok
returns-in-Ok c = λ rows told.
    rw c.in-Ok.is (IfOk-weaker c.subcommands.result _ _ (λ whole added. commands_in_turn c.in-Ok.program whole _ rows added told) c.subcommands.ensures)
