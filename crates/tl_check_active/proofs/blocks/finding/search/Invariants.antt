use Rattle.std.proofs.Common.{◌-◌}
use Rattle.tl_check_active.proofs.blocks.finding.search.Given as goal

abbrev pub decreases-loop-low : goal.decreases-loop-low
decreases-loop-low g l = l.high - l.low
