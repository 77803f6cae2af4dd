use Rattle.std.proofs.Common.{◌≡◌, ◌-◌}
use Rattle.tl_record.specs.Reader.{source_of, judged_of}
use Rattle.tl_record.specs.Searching.{SearchesOn}
use Rattle.tl_record.proofs.reader.RecordReader.search_on.Given as goal

abbrev pub invariant-lines : goal.invariant-lines
invariant-lines g l = record {
  searches : SearchesOn g.R.Source.remaining g.R.Source.failure_count l.initial.self l.self;
  same : g.R.Source.reference (source_of l.self) ≡ g.R.Source.reference (source_of l.initial.self);
}

abbrev pub decreases-lines : goal.decreases-lines
decreases-lines g l = 18446744073709551615 - judged_of l.self
