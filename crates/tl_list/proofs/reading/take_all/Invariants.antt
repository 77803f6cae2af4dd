use Rattle.std.proofs.Common.{◌≡◌, ◌⊎◌, ◌+◌, ◌-◌}
use Rattle.tl_record.specs.declared.judge.TheConstants.{MAX_LINES}
use Rattle.tl_record.specs.declared.reader.Standing.TheVariants.{Reading, Ended}
use Rattle.tl_record.specs.Reader.{source_of, lines_of, skipped_of, standing_of, refusals_to_come, unjudged}
use Rattle.tl_record.specs.Leaving.{left_to_come}
use Rattle.tl_record.specs.Fronts.{PassesLines, WhereOn, lines_ahead}
use Rattle.tl_map_rules.specs.Listing.Refusals.Listing.{ListsSoFar}
use Rattle.tl_list.specs.Keeping.Noting.{NotesFronts}
use Rattle.tl_list.specs.Keeping.Reading.{MaySoFar}
use Rattle.tl_list.proofs.reading.take_all.Given as goal

abbrev pub invariant-lines : goal.invariant-lines
invariant-lines g l = record {
  kept : MaySoFar l.fn.joins l.fn.skips l.fn.notes (left_to_come g.R.Source.remaining l.fn.reader) (left_to_come g.R.Source.remaining l.reader) l.refused.items l.noted.records l.taken;
  refused : ListsSoFar (refusals_to_come g.R.Source.remaining l.fn.reader) (refusals_to_come g.R.Source.remaining l.reader) l.refused.items;
  fronts : NotesFronts l.fn.notes (unjudged g.R.Source.remaining l.fn.reader) l.refused.items l.noted.fronts.items;
  ahead : WhereOn (standing_of l.reader) (PassesLines (lines_of l.reader) (lines_ahead g.R.Source.remaining l.fn.reader) (lines_ahead g.R.Source.remaining l.reader));
  failures : g.R.Source.failure_count (source_of l.reader) ≡ g.R.Source.failure_count (source_of l.fn.reader);
  same : g.R.Source.reference (source_of l.reader) ≡ g.R.Source.reference (source_of l.fn.reader);
  standing : (standing_of l.reader ≡ Reading) ⊎ (standing_of l.reader ≡ Ended);
}

abbrev pub decreases-lines : goal.decreases-lines
decreases-lines g l = MAX_LINES + MAX_LINES + skipped_of l.reader - lines_of l.reader - lines_of l.reader
