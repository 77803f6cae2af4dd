use Rattle.tl_map_rules.specs.Listing.Keeping.Told.{Tells}
use Rattle.tl_map_rules.specs.Listing.Keeping.Runs.{IsRunFault}
use Rattle.tl_map_rules.proofs.listing.runs.push_shapes.Given as goal

abbrev pub invariant-loop-place : goal.invariant-loop-place
invariant-loop-place l = Tells (IsRunFault l.shapes l.place) l.fn.faults.items l.faults.items
