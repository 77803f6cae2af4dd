use Rattle.std.proofs.Common.{length}
use Rattle.tl_check_sweep.proofs.taking.Charges.test_event.Given as goal

abbrev pub decreases-loop-last : goal.decreases-loop-last
decreases-loop-last l = length l.kept.items
