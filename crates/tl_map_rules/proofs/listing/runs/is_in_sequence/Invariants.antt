use Rattle.std.proofs.Common.{◌≡◌, ◌+◌, drop, map}
use Rattle.tl_map_rules.specs.declared.listing.shape.ShapeSummary.{ShapeSummary}
use Rattle.tl_map_rules.specs.Listing.Keeping.Runs.{in_sequence, count_up}
use Rattle.tl_map_rules.proofs.listing.runs.is_in_sequence.Given as goal

abbrev pub invariant-loop-place : goal.invariant-loop-place
invariant-loop-place l = in_sequence l.run ≡ count_up (l.place + 1) (map (λ (s : ShapeSummary). s.rtsq) (drop l.place l.run))
