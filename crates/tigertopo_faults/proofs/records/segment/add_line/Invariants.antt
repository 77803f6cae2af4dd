use Rattle.std.proofs.Common.{◌-◌}
use Rattle.arrayvec.specs.ArrayVec.{array_vec_len}
use Rattle.tigertopo_faults.proofs.OrderLemmas.{GoesBehind}
use Rattle.tigertopo_faults.proofs.records.segment.add_line.Given as goal

abbrev pub invariant-loop-place : goal.invariant-loop-place
invariant-loop-place l = GoesBehind l.line l.found.items l.place

abbrev pub decreases-loop-place : goal.decreases-loop-place
decreases-loop-place l = array_vec_len l.found - l.place
