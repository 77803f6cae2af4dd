use Rattle.std.proofs.Common.{◌≡◌, ℕ, ◌<◌, slice_index}
use Rattle.tl_map_county.specs.Darts.{dart_start}
use Rattle.tl_check_sides.proofs.rounds.has_one_node.Given as goal

-- the darts so far start where the first one does
abbrev pub invariant-loop-place : goal.invariant-loop-place
invariant-loop-place l = (k : ℕ) → k < l.place → dart_start l.map.chains (slice_index l.round k) ≡ dart_start l.map.chains (slice_index l.round 0)
