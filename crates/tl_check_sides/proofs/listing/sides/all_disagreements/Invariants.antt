use Rattle.tl_check_sides.specs.Listing.Keeping.Grouped.{AreGrouped}
use Rattle.tl_check_sides.specs.Listing.Keeping.Telling.{AreDisagreementsBefore}
use Rattle.tl_check_sides.proofs.listing.sides.all_disagreements.Given as goal

abbrev pub invariant-loop-dart : goal.invariant-loop-dart
invariant-loop-dart l =
    record {
      grouped : AreGrouped l.map.chains l.groups;
      found : AreDisagreementsBefore l.map.chains l.dart 0 l.found.items;
    }
