use Rattle.std.proofs.Common.{◌≡◌, take}
use Rattle.tl_map_rules.specs.Listing.Keeping.Runs.{seen_in_run}
use Rattle.tl_map_rules.proofs.listing.runs.seen_of_run.Given as goal

abbrev pub invariant-loop-shape : goal.invariant-loop-shape
invariant-loop-shape l = l.seen ≡ seen_in_run (take l.shape-index l.run)
