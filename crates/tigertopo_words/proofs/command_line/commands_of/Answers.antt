use Rattle.tigertopo_words.specs.Keeping.{told_of, row_told}
use Rattle.tigertopo_words.proofs.CommandsLemmas.{each_more, each_all}
use Rattle.tigertopo_words.proofs.command_line.commands_of.Goals as goal

pub loop-row-preserved : goal.loop-row-preserved
loop-row-preserved c =
    each_more told_of row_told c.loop-row.commands.items _ c.args.rows.now c.loop-row.row-index _ c.in-Ok.command c.loop-row-test.true c.in_ok-push-in-Ok.ensures.items
    c.in-Ok.ensures c.loop-row.invariant

pub returns : goal.returns
returns c = each_all told_of row_told c.loop-row.commands.items c.args.rows.now c.loop-row.row-index c.loop-row-test.false c.loop-row.invariant
