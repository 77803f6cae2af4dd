use Rattle.std.proofs.Common.{◌≡◌, ℕ, ◌<◌, slice_index}
use Rattle.tl_map_county.specs.Darts.{dart_left}
use Rattle.tl_check_sides.specs.Sides.{dart_right}
use Rattle.tl_check_sides.proofs.next.Next.disagreement.Given as goal

-- the sides of the darts so far agree with those of the next ones
abbrev pub invariant-loop-dart : goal.invariant-loop-dart
invariant-loop-dart l = (d : ℕ) → d < l.dart → dart_left l.map.chains d ≡ dart_right l.map.chains (slice_index l.self.next.items d)
