use Rattle.std.proofs.Common.{◌≡◌, ◌≤◌, length, take}
use Rattle.tl_record.specs.Fields.{without_trailing_blanks}
use Rattle.tl_record.proofs.number.without_trailing_blanks.Given as goal

abbrev pub invariant-loop-length : goal.invariant-loop-length
invariant-loop-length l = record {
  same : without_trailing_blanks (take l.length l.bytes) ≡ without_trailing_blanks l.bytes;
  within : l.length ≤ length l.bytes;
}

abbrev pub decreases-loop-length : goal.decreases-loop-length
decreases-loop-length l = l.length
