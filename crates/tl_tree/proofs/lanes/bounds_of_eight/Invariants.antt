use Rattle.std.proofs.Common.{◌≡◌, ℕ, ◌<◌, length, get_or}
use Rattle.tl_geom.specs.Rectangle.{nothing}
use Rattle.tl_tree.proofs.lanes.bounds_of_eight.Given as goal

-- the bounds of the items so far
abbrev pub invariant-loop-k : goal.invariant-loop-k
invariant-loop-k g l = record {
  eight : length l.rects ≡ 8;
  found : (m : ℕ) → m < l.k → get_or l.rects m nothing ≡ g.I.Items.bounds_of l.items (get_or l.some m 0);
}
