use Rattle.tigertopo_words.specs.Keeping.{rule_told, argument_told}
use Rattle.tigertopo_words.proofs.CommandsLemmas.{each_more, each_all}
use Rattle.tigertopo_words.proofs.command_line.args_of.Goals as goal

pub loop-argument-preserved : goal.loop-argument-preserved
loop-argument-preserved c =
    each_more rule_told argument_told c.loop-argument.args.items _ c.args.arguments.now c.loop-argument.argument-index _ c.arg_of.result c.loop-argument-test.true c.in_ok-push.ensures.items
    c.arg_of.ensures c.loop-argument.invariant

pub returns : goal.returns
returns c = each_all rule_told argument_told c.loop-argument.args.items c.args.arguments.now c.loop-argument.argument-index c.loop-argument-test.false c.loop-argument.invariant
