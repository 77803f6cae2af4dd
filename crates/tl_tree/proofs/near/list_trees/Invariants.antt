use Rattle.std.proofs.Common.{◌≡◌, ℕ, ◌+◌, ◌≤◌, length, take}
use Rattle.tl_tree_index.specs.Pairs.{meeting, AreToldApart, cross_sum, AllCross}
use Rattle.tl_tree_index.specs.Trees.{leaf_items, node_count}
use Rattle.tl_tree.specs.Keeping.Listing.{listed_items, AllSound}
use Rattle.tl_tree.specs.Keeping.Walking.{items_below, AreSound}
use Rattle.tl_tree.proofs.near.list_trees.Given as goal

-- the listed trees stand for those so far
abbrev pub invariant-loop-first : goal.invariant-loop-first
invariant-loop-first g l =
    let see = g.W.Trees.forest in
    let n = g.I.Items.count l.items in
    let b = g.I.Items.bounds_of l.items in
    let meet = cross_sum (meeting b) (items_below see l.tree.below) in
    let free = AllCross (AreToldApart (g.I.Items.tells l.items)) (items_below see l.tree.below) in
    record {
      sum : meet (listed_items see (take l.more l.near)) + meet (leaf_items (see l.left)) ≡ meet (listed_items see (take l.fn.len l.fn.near)) + meet (leaf_items (see l.fn.others));
      most : (f : ℕ → ℕ → ℕ) → let some = cross_sum f (items_below see l.tree.below) in some (listed_items see (take l.more l.near)) + some (leaf_items (see l.left)) ≤ some (listed_items see (take l.fn.len l.fn.near)) + some (leaf_items (see l.fn.others));
      free : free (listed_items see (take l.more l.near)) → free (leaf_items (see l.left)) → free (listed_items see (take l.fn.len l.fn.near)) × free (leaf_items (see l.fn.others));
      sound : AllSound n b see (take l.fn.len l.fn.near) → AllSound n b see (take l.more l.near);
      left : AreSound n b (see l.left);
      fits : l.more ≤ length l.fn.near;
      complete : length l.near ≡ length l.fn.near;
    }

-- the nodes that are left
abbrev pub decreases-loop-first : goal.decreases-loop-first
decreases-loop-first g l = node_count (g.W.Trees.forest l.left)
