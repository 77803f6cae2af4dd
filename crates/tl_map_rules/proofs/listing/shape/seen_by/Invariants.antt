use Rattle.std.proofs.Common.{◌≡◌, None, take}
use Rattle.tl_map_rules.specs.Listing.Shapes.{traces}
use Rattle.tl_map_rules.proofs.listing.shape.seen_by.Given as goal

abbrev pub invariant-loop-point : goal.invariant-loop-point
invariant-loop-point l = l.trace ≡ traces None (take l.point-index l.points)
