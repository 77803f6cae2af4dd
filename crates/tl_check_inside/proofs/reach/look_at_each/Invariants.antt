use Rattle.std.proofs.Common.{◌≡◌, ℕ, ◌<◌, ◌≤ℤ◌, pos, Some}
use Rattle.std.specs.Prelude.{slice_get}
use Rattle.tl_geom.specs.declared.point.Point.{Point}
use Rattle.tl_check_inside.proofs.reach.look_at_each.Given as goal

-- none of those so far does
abbrev pub invariant-loop-point : goal.invariant-loop-point
invariant-loop-point l = (k : ℕ) (p : Point) → k < l.point-index → slice_get l.points k ≡ Some p → p.x ≤ℤ pos 2147483647
