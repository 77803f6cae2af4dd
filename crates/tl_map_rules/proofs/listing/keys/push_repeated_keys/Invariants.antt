use Rattle.tl_map_rules.specs.declared.fault.RecordFault.TheVariants.{DuplicatePolygon}
use Rattle.tl_map_rules.specs.Listing.Keeping.Told.{Tells}
use Rattle.tl_map_rules.specs.Listing.Keeping.Numbers.{StandsNext}
use Rattle.tl_map_rules.proofs.listing.keys.push_repeated_keys.Given as goal

abbrev pub invariant-loop-place : goal.invariant-loop-place
invariant-loop-place l = Tells (StandsNext DuplicatePolygon l.keys l.place) l.fn.faults.items l.faults.items
