-- Segments of which one is west of the other without touching it.
use Rattle.std.specs.Prelude.{◌⊎◌, ℤ, pos, ◌<ℤ◌}
use Rattle.tl_geom.specs.declared.segment.Segment.{Segment}
use Rattle.tl_check_planar.specs.ByHeight.Heights.{low_end, high_end, turn_to}

-- u is clearly west of w: of their low ends one is strictly on the right side of the other segment's line, and of their high
-- ends one is
pub record IsClearlyWestOf (K : ℤ) (u w : Segment) : Type 0 where
  pub below : (pos 0 <ℤ turn_to K w (low_end K u)) ⊎ (turn_to K u (low_end K w) <ℤ pos 0)
  pub above : (pos 0 <ℤ turn_to K w (high_end K u)) ⊎ (turn_to K u (high_end K w) <ℤ pos 0)
