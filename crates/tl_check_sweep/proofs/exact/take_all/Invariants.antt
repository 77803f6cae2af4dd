use Rattle.std.proofs.Common.{◌≡◌, ◌++◌, length}
use Rattle.tl_check_active.specs.Blocks.Lined.{list_of}
use Rattle.tl_check_sweep.proofs.exact.take_all.Given as goal

-- what is listed and what is left on the list is all
abbrev pub invariant-loop-s : goal.invariant-loop-s
invariant-loop-s l = l.numbers.items ++ l.line.back ≡ list_of l.fn.line

abbrev pub decreases-loop-s : goal.decreases-loop-s
decreases-loop-s l = length l.line.back
