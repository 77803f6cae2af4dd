use Rattle.tl_check_sides.specs.Listing.Keeping.Grouped.{HaveBegun, AreNexts}
use Rattle.tl_check_sides.proofs.listing.groups.next_groups.Given as goal

abbrev pub invariant-loop-place : goal.invariant-loop-place
invariant-loop-place l =
    record {
      begun : HaveBegun l.darts l.place l.first;
      nexts : AreNexts l.darts l.place l.nexts.items;
    }
