use Rattle.std.proofs.Common.{◌≡◌, take}
use Rattle.tigertopo_faults.specs.Records.Kept.{all_walked, in_lists}
use Rattle.tigertopo_faults.proofs.records.lines.all_segments.Given as goal

abbrev pub invariant-loop-number : goal.invariant-loop-number
invariant-loop-number l = in_lists l.segments.items ≡ all_walked l.telling (take l.number l.kept.subjects.keys) (take l.number l.kept.lines.items)
