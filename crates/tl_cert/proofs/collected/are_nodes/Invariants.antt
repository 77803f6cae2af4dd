use Rattle.std.proofs.Common.{ℕ, ◌<◌, slice_index_or}
use Rattle.tl_tree_index.specs.declared.node.TreeNode.{TreeNode}
use Rattle.tl_cert.specs.Certificates.{IsNode}
use Rattle.tl_cert.proofs.collected.are_nodes.Given as goal

abbrev pub invariant-loop-node : goal.invariant-loop-node
invariant-loop-node l = (k : ℕ) (d : TreeNode) → k < l.node-index → IsNode l.version (slice_index_or l.nodes k d)
