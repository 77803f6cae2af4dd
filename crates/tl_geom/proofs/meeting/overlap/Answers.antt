use Rattle.std.proofs.Common.{sym, ◌∙◌}
use Rattle.std.proofs.lemmas.Bool.{false≢true}
use Rattle.tl_geom.proofs.NoOverlaps.{overlap_in_line}
use Rattle.tl_geom.proofs.meeting.overlap.Goals as goal

pub returns-else-are_in_line-clause-none : goal.returns-else-are_in_line-clause-none
returns-else-are_in_line-clause-none c =
    λ o k. absurd (false≢true (sym c.if-are_in_line.false ∙ c.are_in_line.ensures.1 (overlap_in_line c.args.s c.args.t o k)))

pub returns-else-are_in_line-clause-overlap : goal.returns-else-are_in_line-clause-overlap
returns-else-are_in_line-clause-overlap c = tt

pub returns-then-are_in_line-clause-overlap : goal.returns-then-are_in_line-clause-overlap
returns-then-are_in_line-clause-overlap c = c.overlap_in_line.ensures.overlap

pub returns-then-are_in_line-clause-none : goal.returns-then-are_in_line-clause-none
returns-then-are_in_line-clause-none c = c.overlap_in_line.ensures.none

pub overlap_in_line-requires : goal.overlap_in_line-requires
overlap_in_line-requires c = c.are_in_line.ensures.0 c.if-are_in_line.true
