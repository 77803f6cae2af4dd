use Rattle.std.proofs.Common.{◌-◌, length}
use Rattle.tl_check_sides.specs.Listing.Keeping.Grouped.{IsEndOf, AreEnds}
use Rattle.tl_check_sides.proofs.listing.groups.group_ends.Given as goal

abbrev pub invariant-loop-behind : goal.invariant-loop-behind
invariant-loop-behind l =
    record {
      last : IsEndOf l.darts (length l.darts - l.behind) l.end;
      ends : AreEnds l.darts (length l.darts - l.behind) l.ends.items;
    }
