use Rattle.std.proofs.Common.{◌≡◌, take}
use Rattle.std.specs.List.{flat_map}
use Rattle.tl_map_rules.specs.Listing.Kept.{names_of}
use Rattle.tl_map.proofs.left.names_of_sides.Given as goal

abbrev pub invariant-loop-place : goal.invariant-loop-place
invariant-loop-place l = l.made.items ≡ flat_map names_of (take l.place l.sides)
