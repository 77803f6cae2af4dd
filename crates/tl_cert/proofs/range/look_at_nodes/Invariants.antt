use Rattle.std.proofs.Common.{ℕ, ◌<◌, slice_index_or}
use Rattle.tl_tree_index.specs.declared.node.TreeNode.{TreeNode}
use Rattle.tl_cert.specs.Certificates.{IsNodeInRange}
use Rattle.tl_cert.proofs.range.look_at_nodes.Given as goal

-- the nodes so far are in range
abbrev pub invariant-loop-node : goal.invariant-loop-node
invariant-loop-node l = (k : ℕ) (d : TreeNode) → k < l.node-index → IsNodeInRange (slice_index_or l.nodes k d)
