use Rattle.std.proofs.Common.{◌∙◌}
use Rattle.tl_check_inside.proofs.misplaced.misplaced_by.Goals as goal

pub tally-requires-clause-no_near : goal.tally-requires-clause-no_near
tally-requires-clause-no_near c = c.requires.no_near

pub tally-requires-clause-no_far : goal.tally-requires-clause-no_far
tally-requires-clause-no_far c = c.requires.no_far

pub misplaced_at_counts-found-requires-clause-is : goal.misplaced_at_counts-found-requires-clause-is
misplaced_at_counts-found-requires-clause-is c = c.requires.is

pub misplaced_at_counts-found-requires-clause-off : goal.misplaced_at_counts-found-requires-clause-off
misplaced_at_counts-found-requires-clause-off c = c.requires.off

pub misplaced_at_counts-found-requires-clause-tell : goal.misplaced_at_counts-found-requires-clause-tell
misplaced_at_counts-found-requires-clause-tell c = c.requires.tell

pub misplaced_at_counts-found-requires-clause-nears : goal.misplaced_at_counts-found-requires-clause-nears
misplaced_at_counts-found-requires-clause-nears c = c.tally.ensures.nears ∙ c.requires.nears

pub misplaced_at_counts-found-requires-clause-fars : goal.misplaced_at_counts-found-requires-clause-fars
misplaced_at_counts-found-requires-clause-fars c = c.tally.ensures.fars ∙ c.requires.fars

pub misplaced_at_counts-found-requires-clause-tallies : goal.misplaced_at_counts-found-requires-clause-tallies
misplaced_at_counts-found-requires-clause-tallies c = c.tally.ensures.tallies

pub returns-clause-found : goal.returns-clause-found
returns-clause-found c = c.misplaced_at_counts-found.ensures

pub returns-clause-nears : goal.returns-clause-nears
returns-clause-nears c = c.take_back.ensures.nears ∙ c.tally.ensures.nears

pub returns-clause-fars : goal.returns-clause-fars
returns-clause-fars c = c.take_back.ensures.fars ∙ c.tally.ensures.fars

pub returns-clause-no_near : goal.returns-clause-no_near
returns-clause-no_near c = c.take_back.ensures.no_near

pub returns-clause-no_far : goal.returns-clause-no_far
returns-clause-no_far c = c.take_back.ensures.no_far
