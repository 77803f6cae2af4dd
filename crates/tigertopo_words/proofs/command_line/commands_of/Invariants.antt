use Rattle.std.proofs.Common.{◌≡◌, map, take}
use Rattle.tigertopo_words.specs.Keeping.{told_of, row_told}
use Rattle.tigertopo_words.proofs.command_line.commands_of.Given as goal

abbrev pub invariant-loop-row : goal.invariant-loop-row
invariant-loop-row l = map told_of l.commands.items ≡ map row_told (take l.row-index l.rows)
