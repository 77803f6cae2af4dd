use Rattle.std.proofs.Common.{◌≡◌, ℕ, ◌<◌, Some, slice_index}
use Rattle.tl_map_county.specs.Darts.{dart_left}
use Rattle.tl_build_propose.proofs.counted.has_one_left.Given as goal

-- the darts so far have the first one's side on their left
abbrev pub invariant-loop-place : goal.invariant-loop-place
invariant-loop-place l = (k : ℕ) → k < l.place → dart_left l.map.chains (slice_index l.walk k) ≡ Some l.left
