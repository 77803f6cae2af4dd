use Rattle.std.proofs.Common.{◌≡◌, ℕ, ◌+◌, ◌<◌, length, get_or}
use Rattle.tl_geom.specs.Rectangle.{nothing}
use Rattle.tl_tree.specs.Keeping.Marking.{roots}
use Rattle.tl_tree.proofs.lanes.fill_roots.Given as goal

-- the rectangles of the trees so far, and those of the trees that are left
abbrev pub invariant-loop-k : goal.invariant-loop-k
invariant-loop-k g l =
    let all = roots (g.W.Trees.forest l.trees) in
    let others = roots (g.W.Trees.forest l.left) in
    record {
      eight : length l.rects ≡ 8;
      found : (m : ℕ) → m < l.k → m < length all → get_or l.rects m nothing ≡ get_or all m nothing;
      behind : (m : ℕ) → get_or others m nothing ≡ get_or all (m + l.k) nothing;
      count : length others + l.k ≡ length all;
    }
