use Rattle.std.proofs.Common.{List, ap, arith}
use Rattle.tl_tree_index.specs.declared.node.TreeNode.{TreeNode}
use Rattle.tl_tree_index.specs.Trees.{node_count, tree_of}
use Rattle.tl_tree.proofs.Flat.{end-bound}
use Rattle.tl_tree.proofs.flat_tree.FlatTree.lists.Goals as goal

pub returns-clause-numbered : goal.returns-clause-numbered
returns-clause-numbered c =
    let h = end-bound c.self.inside.nodes.now 0 1 (omega arith) in
    let e = ap (λ (nodes : List TreeNode). node_count (tree_of nodes)) c.self.view_is in
    omega (arith, h, e, c.self.invariant.1)
