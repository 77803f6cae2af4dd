use Rattle.std.proofs.Common.{◌≡◌, length}
use Rattle.tl_check_sides.specs.Listing.Keeping.Starts.{AreFirstsOf}
use Rattle.tl_check_sides.proofs.listing.starts.first_at_nodes.Given as goal

abbrev pub invariant-loop-place : goal.invariant-loop-place
invariant-loop-place l =
    record {
      firsts : AreFirstsOf l.starts l.place l.firsts.items;
      long : length l.firsts.items ≡ l.nodes;
    }
