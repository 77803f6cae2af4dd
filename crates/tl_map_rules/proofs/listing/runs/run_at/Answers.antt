use Rattle.tl_map_rules.proofs.ListingLemmas.RunLemmas.{run_is}
use Rattle.tl_map_rules.proofs.listing.runs.run_at.Goals as goal

pub returns : goal.returns
returns c = run_is c.args.shapes.now c.args.place c.run_end-end.result c.args.tlid c.run_end-end.ensures.from c.run_end-end.ensures.within c.requires.order c.requires.below c.run_end-end.ensures.same c.requires.from c.run_end-end.ensures.stops
