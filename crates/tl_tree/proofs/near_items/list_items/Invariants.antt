use Rattle.std.proofs.Common.{◌≡◌, ℕ, ◌+◌, ◌≤◌, length, take, drop}
use Rattle.tl_tree_index.specs.Fits.{AreBelow}
use Rattle.tl_tree_index.specs.Pairs.{meeting, AreToldApart, cross_sum, AllCross}
use Rattle.tl_tree.proofs.near_items.list_items.Given as goal

-- the listed ones stand for those so far
abbrev pub invariant-loop-other : goal.invariant-loop-other
invariant-loop-other g l =
    let meet = cross_sum (meeting (g.I.Items.bounds_of l.items)) l.some in
    let free = AllCross (AreToldApart (g.I.Items.tells l.items)) l.some in
    record {
      sum : meet (take l.more l.near) + meet (drop l.other-index l.others) ≡ meet (take l.fn.len l.fn.near) + meet l.others;
      most : (f : ℕ → ℕ → ℕ) → cross_sum f l.some (take l.more l.near) + cross_sum f l.some (drop l.other-index l.others) ≤ cross_sum f l.some (take l.fn.len l.fn.near) + cross_sum f l.some l.others;
      free : free (take l.more l.near) → free (drop l.other-index l.others) → free (take l.fn.len l.fn.near) × free l.others;
      known : AreBelow (g.I.Items.count l.items) (take l.fn.len l.fn.near) → AreBelow (g.I.Items.count l.items) (take l.more l.near);
      fits : l.more ≤ l.fn.len + l.other-index;
      complete : length l.near ≡ length l.fn.near;
    }
