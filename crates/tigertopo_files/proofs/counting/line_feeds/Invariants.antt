use Rattle.std.proofs.Common.{◌≡◌, ◌+◌, length}
use Rattle.tl_record.specs.Lines.{line_feeds}
use Rattle.tigertopo_files.proofs.counting.line_feeds.Given as goal

-- the places that are left are as many as aren't counted yet
abbrev pub invariant-places : goal.invariant-places
invariant-places l = l.count + length l.found ≡ line_feeds l.bytes

abbrev pub decreases-places : goal.decreases-places
decreases-places l = length l.found
