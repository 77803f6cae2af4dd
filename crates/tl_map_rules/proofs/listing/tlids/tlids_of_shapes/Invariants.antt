use Rattle.std.proofs.Common.{◌≡◌, take, map}
use Rattle.tl_map_rules.specs.declared.listing.shape.ShapeSummary.{ShapeSummary}
use Rattle.tl_map_rules.proofs.listing.tlids.tlids_of_shapes.Given as goal

abbrev pub invariant-loop-shape : goal.invariant-loop-shape
invariant-loop-shape l = l.tlids.items ≡ map (λ (s : ShapeSummary). s.tlid) (take l.shape-index l.shapes)
