use Rattle.std.proofs.Common.{◌≡◌, ◌≤◌, ◌+◌, ◌*◌, drop}
use Rattle.tl_tree_index.proofs.Counting.{counted}
use Rattle.tl_tree_index.proofs.preorder.is_preorder.Given as goal

-- the nodes that are left are counted from the trees still to come
abbrev pub invariant-loop-node : goal.invariant-loop-node
invariant-loop-node l =
    record {
      same : counted l.awaited (drop l.node-index l.nodes) ≡ counted 1 l.nodes;
      small : l.awaited ≤ 1 + 8 * l.node-index;
    }
