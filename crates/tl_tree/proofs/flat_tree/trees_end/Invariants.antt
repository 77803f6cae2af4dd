use Rattle.std.proofs.Common.{◌≡◌, ◌≤◌, ◌+◌, length, drop}
use Rattle.tl_tree_index.specs.Trees.{trees_of, first_trees, node_count}
use Rattle.tl_tree.proofs.flat_tree.trees_end.Given as goal

-- where the first i trees end
abbrev pub invariant-loop-i : goal.invariant-loop-i
invariant-loop-i l =
    record {
      value : l.at ≡ l.first + node_count (first_trees l._i (trees_of (drop l.first l.nodes)));
      end : l.at ≤ length l.nodes;
    }
