use Rattle.tl_map_rules.specs.Listing.Keeping.Told.{Tells}
use Rattle.tl_map_rules.specs.Listing.Keeping.Numbers.{fault_of, StandsNext}
use Rattle.tl_map_rules.proofs.listing.numbers.push_repeats.Given as goal

abbrev pub invariant-loop-place : goal.invariant-loop-place
invariant-loop-place l = Tells (StandsNext (fault_of l.what) l.numbers l.place) l.fn.faults.items l.faults.items
