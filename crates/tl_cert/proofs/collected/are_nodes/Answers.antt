use Rattle.std.proofs.Common.{below_more, get_or, subst, sym, refl, ◌∙◌, arith}
use Rattle.std.proofs.lemmas.List.{get_or_default}
use Rattle.tl_tree_index.specs.declared.node.TreeNode.{TreeNode}
use Rattle.tl_cert.specs.Certificates.{IsNode}
use Rattle.tl_cert.proofs.collected.are_nodes.Goals as goal

pub loop-node-init : goal.loop-node-init
loop-node-init c = λ k d below. absurd (omega (arith, below))

pub loop-node-preserved : goal.loop-node-preserved
loop-node-preserved c = λ k d small.
    let nodes = c.args.nodes.now in
    let version = c.args.version in
    let index = c.loop-node.node-index in
    below_more (λ k. (d : TreeNode) → IsNode version (get_or nodes k d)) index (λ k small d. c.loop-node.invariant k d small)
    (λ d. subst (IsNode version) (c.node-item.is ∙ get_or_default nodes index c.node-item.result d c.loop-node-test.true) (c.is_node.ensures.0 c.if-not-is_node.false)) k small d

pub returns-then-not-is_node : goal.returns-then-not-is_node
returns-then-not-is_node c = (
  λ t. absurd (cc t),
  λ all. sym c.if-not-is_node.true
      ∙ c.is_node.ensures.1 (subst (IsNode c.args.version) (sym c.node-item.is) (all c.loop-node.node-index c.node-item.result c.loop-node-test.true)),
)

pub returns : goal.returns
returns c = (λ t k d below. c.loop-node.invariant k d (omega (arith, below, c.loop-node-test.false)), λ all. refl)
