use Rattle.std.proofs.Common.{◌≡◌, map, take}
use Rattle.tigertopo_words.specs.Keeping.{rule_told, argument_told}
use Rattle.tigertopo_words.proofs.command_line.args_of.Given as goal

abbrev pub invariant-loop-argument : goal.invariant-loop-argument
invariant-loop-argument l = map rule_told l.args.items ≡ map argument_told (take l.argument-index l.arguments)
