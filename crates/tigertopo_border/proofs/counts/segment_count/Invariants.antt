use Rattle.std.proofs.Common.{◌≡◌, take}
use Rattle.std.specs.Prelude.{sum_by}
use Rattle.tigertopo_border.specs.Border.{border_segments}
use Rattle.tigertopo_border.proofs.counts.segment_count.Given as goal

abbrev pub invariant-loop-number : goal.invariant-loop-number
invariant-loop-number l = l.count ≡ sum_by border_segments (take l.number l.map.chains)
