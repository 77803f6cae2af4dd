use Rattle.std.proofs.Common.{◌≡◌, ◌-◌}
use Rattle.tl_record.specs.Reader.{source_of, lines_of, PassesOver}
use Rattle.tl_record.specs.Leaving.{LeavesOn}
use Rattle.tl_record.proofs.reader.RecordReader.read_on.Given as goal

abbrev pub invariant-lines : goal.invariant-lines
invariant-lines g l = record {
  passes : PassesOver g.R.Source.remaining g.R.Source.failure_count l.initial.self l.self;
  left : LeavesOn g.R.Source.remaining l.initial.self l.self;
  same : g.R.Source.reference (source_of l.self) ≡ g.R.Source.reference (source_of l.initial.self);
  kept : l.place ≡ l.initial.place;
}

abbrev pub decreases-lines : goal.decreases-lines
decreases-lines g l = 67108864 - lines_of l.self
