use Rattle.std.proofs.Common.{ℕ, ◌+◌, ◌*◌, ◌≤◌, List}
use Rattle.tl_tree_index.specs.Trees.{leaf_items, node_count}
use Rattle.tl_tree.specs.Keeping.Marking.{Includes, RootMeets}
use Rattle.tl_tree.specs.Keeping.Walking.{size_of, AreSound, Grows, Collects}
use Rattle.tl_tree.proofs.hits.+collect.Given as goal

-- twice the nodes of the tree
abbrev pub decreases-collect_one : goal.decreases-collect_one
decreases-collect_one g l = 2 * size_of g.W.Trees.forest l.tree.now.below

-- one more than twice the nodes of the trees
abbrev pub decreases-collect_trees : goal.decreases-collect_trees
decreases-collect_trees g l = 2 * node_count (g.W.Trees.forest l.trees.now) + 1

-- what is collected of the trees that are left makes up what is collected of all
abbrev pub invariant-collect_trees-loop-tree : goal.invariant-collect_trees-loop-tree
invariant-collect_trees-loop-tree g l =
    let see = g.W.Trees.forest in
    let hit = g.P.Probe.hit l.probe l.items in
    record {
      left : AreSound (g.I.Items.count l.items) (g.I.Items.bounds_of l.items) (see l.left);
      marks : Includes l.marks (RootMeets (see l.left) l.fn.region);
      nodes : node_count (see l.left) ≤ node_count (see l.fn.trees);
      hits : (new : List ℕ) → Collects hit (leaf_items (see l.left)) l.out.items new → Collects hit (leaf_items (see l.fn.trees)) l.fn.out.items new;
      grows : Grows l.fn.out.items l.out.items;
    }

-- the nodes that are left
abbrev pub decreases-collect_trees-loop-tree : goal.decreases-collect_trees-loop-tree
decreases-collect_trees-loop-tree g l = node_count (g.W.Trees.forest l.left)
