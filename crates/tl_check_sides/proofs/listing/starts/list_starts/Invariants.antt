use Rattle.tl_check_sides.specs.Listing.Keeping.Starts.{AreListed}
use Rattle.tl_check_sides.proofs.listing.starts.list_starts.Given as goal

abbrev pub invariant-loop-dart : goal.invariant-loop-dart
invariant-loop-dart l = AreListed l.map.chains l.dart l.starts.items
