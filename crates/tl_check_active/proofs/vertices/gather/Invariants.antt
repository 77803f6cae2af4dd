use Rattle.std.proofs.Common.{◌≡◌, ◌<◌, ◌≤◌, ◌-◌, ◌+ℤ◌, pos, ℕ, List, length, count_by, All}
use Rattle.tl_geom.specs.declared.point.Point.{Point}
use Rattle.tl_tree_index.specs.Hits.{times}
use Rattle.tl_check_active.specs.declared.events.Event.{Event}
use Rattle.tl_check_planar.specs.ByHeight.Heights.{height, widest}
use Rattle.tl_check_active.specs.Events.{begins_at, ends_at, between}
use Rattle.tl_check_active.proofs.vertices.gather.Given as goal

-- the events so far are at the height of a point, and these are their segments
pub record AreGatheredAt (p : Point) (events : List (List Event)) (from to : ℕ) (outs ins : List ℕ) : Type 0 where
  pub past : from ≤ to
  pub within : to ≤ length events
  pub some : from < to → 0 < length (between from to events)
  pub level : All (λ e. e.height ≡ height widest p +ℤ pos 2147483647) (between from to events)
  pub off : (s : ℕ) → times s outs ≡ count_by (ends_at s) (between from to events)
  pub on : (s : ℕ) → times s ins ≡ count_by (begins_at s) (between from to events)

abbrev pub invariant-loop-to : goal.invariant-loop-to
invariant-loop-to l = AreGatheredAt l.p l.events l.from l.to l.outs.items l.ins.items

abbrev pub decreases-loop-to : goal.decreases-loop-to
decreases-loop-to l = length l.events - l.to
