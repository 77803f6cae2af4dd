use Rattle.std.proofs.Common.{◌≡◌, take, map}
use Rattle.tl_map_rules.specs.Listing.Shapes.{summary_in}
use Rattle.tl_map_rules.proofs.listing.shape.summaries_of.Given as goal

abbrev pub invariant-loop-shape : goal.invariant-loop-shape
invariant-loop-shape l = l.made.items ≡ map (summary_in l.pool) (take l.shape-index l.shapes)
