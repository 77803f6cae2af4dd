use Rattle.std.proofs.Common.{◌∙◌}
use Rattle.tl_check_points.proofs.ListingLemmas.Odds.{others_listed, outside_told}
use Rattle.tl_check_points.proofs.listing.odd.list_odd.Goals as goal

pub returns-in-Ok-clause-outside : goal.returns-in-Ok-clause-outside
returns-in-Ok-clause-outside c = λ q tell.
    outside_told c.args.map.now c.args.p c.args.crossed.now c.tally.new.near c.tally.new.far c.requires.known
    (c.tally.ensures.nears ∙ c.requires.clear.nears) (c.tally.ensures.fars ∙ c.requires.clear.fars) c.tally.ensures.tallies q tell

pub returns-in-Ok-clause-odd : goal.returns-in-Ok-clause-odd
returns-in-Ok-clause-odd c = λ q tell.
    others_listed c.args.map.now c.args.p c.args.crossed.now c.tally.new.near c.tally.new.far c.requires.known
    (c.tally.ensures.nears ∙ c.requires.clear.nears) (c.tally.ensures.fars ∙ c.requires.clear.fars) c.tally.ensures.tallies
    c.list_odd_of-listed.new.odd.items
    (c.in-Ok.ensures) q tell
