use Rattle.std.proofs.Common.{◌≡◌, length}
use Rattle.tl_check_sides.specs.Listing.Keeping.Starts.{HasHead, HaveSeen}
use Rattle.tl_check_sides.specs.Listing.Keeping.Odds.{HaveTold}
use Rattle.tl_check_sides.proofs.listing.cells.find_pairs.Given as goal

abbrev pub invariant-loop-place : goal.invariant-loop-place
invariant-loop-place l =
    record {
      head : HasHead l.starts l.place l.head;
      long : length l.seen.items ≡ length l.firsts;
      seen : HaveSeen l.starts l.place l.seen.items;
      told : HaveTold l.map.chains l.starts l.place l.found.items;
    }
