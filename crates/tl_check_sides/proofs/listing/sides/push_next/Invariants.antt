use Rattle.tl_check_sides.specs.Listing.Disagreements.{HaveSidesAtOdds}
use Rattle.tl_check_sides.specs.Listing.Keeping.Grouped.{numbers_of}
use Rattle.tl_check_planar.proofs.ListingLemmas.Rows.{FilledTo}
use Rattle.tl_check_sides.proofs.listing.sides.push_next.Given as goal

abbrev pub invariant-loop-place : goal.invariant-loop-place
invariant-loop-place l =
    FilledTo (λ d. d.first) (λ d. d.next) (λ d. HaveSidesAtOdds l.map.chains d.first d.next) (HaveSidesAtOdds l.map.chains)
    l.dart (numbers_of l.next) l.place l.found.items
