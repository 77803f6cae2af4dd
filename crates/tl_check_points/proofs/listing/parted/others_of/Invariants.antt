use Rattle.std.proofs.Common.{◌≡◌, take}
use Rattle.tl_check_points.specs.Listing.Keeping.Joined.{turned}
use Rattle.tl_check_points.proofs.listing.parted.others_of.Given as goal

-- those so far are the other way round
abbrev pub invariant-loop-place : goal.invariant-loop-place
invariant-loop-place l = l.others.items ≡ turned (take l.place l.marks)
