use Rattle.std.proofs.Common.{◌≡◌, ◌≤◌, length}
use Rattle.tl_record.specs.Fields.{without_leading_blanks}
use Rattle.tl_record.proofs.number.without_leading_blanks.Given as goal

abbrev pub invariant-loop-rest : goal.invariant-loop-rest
invariant-loop-rest l = record {
  same : without_leading_blanks l.rest ≡ without_leading_blanks l.bytes;
  shorter : length l.rest ≤ length l.bytes;
}

abbrev pub decreases-loop-rest : goal.decreases-loop-rest
decreases-loop-rest l = length l.rest
