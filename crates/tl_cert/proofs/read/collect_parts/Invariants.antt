use Rattle.std.proofs.Common.{◌≡◌}
use Rattle.tl_cert.specs.declared.place.NextPart.{NextPart}
use Rattle.tl_cert.specs.Reading.{source_of, standing_of}
use Rattle.tl_cert.specs.Keeping.Collecting.{Collects, left_of}
use Rattle.tl_cert.proofs.read.collect_parts.Given as goal

abbrev pub invariant-parts : goal.invariant-parts
invariant-parts g l = record {
  place : NextPart;
  collects : Collects g.R.Source.remaining place l.fn.reader l.reader l.parts;
  failures : g.R.Source.failure_count (source_of l.reader) ≡ g.R.Source.failure_count (source_of l.fn.reader);
  same : g.R.Source.reference (source_of l.reader) ≡ g.R.Source.reference (source_of l.fn.reader);
}

abbrev pub decreases-parts : goal.decreases-parts
decreases-parts g l = left_of (standing_of l.reader)
