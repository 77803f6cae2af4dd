use Rattle.std.proofs.Common.{◌≡◌, ◌⊎◌, ◌+◌, ◌-◌}
use Rattle.tl_record.specs.declared.judge.TheConstants.{MAX_LINES}
use Rattle.tl_record.specs.declared.reader.Standing.TheVariants.{Reading, Ended}
use Rattle.tl_record.specs.Reader.{source_of, lines_of, skipped_of, standing_of, outcome}
use Rattle.tl_map.specs.Keeping.Gathering.{GathersToldSoFar}
use Rattle.tl_map.proofs.read.collect_told.Given as goal

abbrev pub invariant-records : goal.invariant-records
invariant-records g l = record {
  so_far : GathersToldSoFar (outcome g.R.Source.remaining l.fn.reader) (outcome g.R.Source.remaining l.reader) l.told;
  failures : g.R.Source.failure_count (source_of l.reader) ≡ g.R.Source.failure_count (source_of l.fn.reader);
  same : g.R.Source.reference (source_of l.reader) ≡ g.R.Source.reference (source_of l.fn.reader);
  standing : (standing_of l.reader ≡ Reading) ⊎ (standing_of l.reader ≡ Ended);
}

abbrev pub decreases-records : goal.decreases-records
decreases-records g l = MAX_LINES + skipped_of l.reader - lines_of l.reader
