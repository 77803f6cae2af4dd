use Rattle.std.proofs.Common.{◌≡◌, ◌+◌, drop, false, eqb, inl, inr, sym, ◌∙◌, ap, arith}
use Rattle.tl_tree_index.proofs.Counting.{counted, decides, not-empty, step-leaf, step-inner, step-wrong, step-closed, step-end}
use Rattle.tl_tree_index.proofs.preorder.is_preorder.Goals as goal
use Rattle.tl_tree_index.proofs.preorder.is_preorder.Goals.{in-Leaf, in-Inner+else-children-lt-LEAST+else-children-gt-MOST, then-children-lt-LEAST-via-then-children-lt-LEAST, then-children-lt-LEAST-via-else-children-lt-LEAST+then-children-gt-MOST}

pub returns-then-awaited-eq0 : goal.returns-then-awaited-eq0
returns-then-awaited-eq0 c =
    let nodes = c.args.nodes.now in
    decides nodes false (not-empty _ _ c.is_empty.ensures c.if-is_empty.false)
    (sym c.loop-node.invariant.same ∙ step-closed c.loop-node.awaited nodes c.loop-node.node-index c.node-item.result c.if-awaited-eq0.true c.loop-node-test.true)

pub returns-then-children-lt-LEAST : goal.returns-then-children-lt-LEAST
returns-then-children-lt-LEAST c =
    let nodes = c.args.nodes.now in
    let wrong = step-wrong c.loop-node.awaited nodes c.loop-node.node-index c.in-Inner.field-0 c.in-Inner.children c.node-item.result c.if-awaited-eq0.false c.loop-node-test.true (sym c.node-item.is ∙ c.in-Inner.is) in
    let at : counted c.loop-node.awaited (drop c.loop-node.node-index nodes) ≡ false =
    elim c.then-children-lt-LEAST.branch [
      | then-children-lt-LEAST-via-then-children-lt-LEAST w ↦ wrong (inl w.if-children-lt-LEAST.true)
      | then-children-lt-LEAST-via-else-children-lt-LEAST+then-children-gt-MOST w ↦ wrong (inr w.if-children-gt-MOST.true)
    ] in
    decides nodes false (not-empty _ _ c.is_empty.ensures c.if-is_empty.false) (sym c.loop-node.invariant.same ∙ at)

pub loop-node-preserved : goal.loop-node-preserved
loop-node-preserved c =
    let nodes = c.args.nodes.now in
    let now = c.loop-node.awaited in
    let at = c.loop-node.node-index in
    elim c.match-node.branch [
      | in-Leaf w ↦ record {
        same = ap (λ i. counted i (drop (at + 1) nodes)) w.awaited-is ∙ step-leaf now nodes at w.in-Leaf.field-0 w.in-Leaf.field-1 c.node-item.result c.if-awaited-eq0.false c.loop-node-test.true (sym c.node-item.is ∙ w.in-Leaf.is) ∙ c.loop-node.invariant.same;
        small = omega (arith, w.awaited-is, c.loop-node.invariant.small);
      }
      | in-Inner+else-children-lt-LEAST+else-children-gt-MOST w ↦ record {
        same = ap (λ i. counted i (drop (at + 1) nodes)) (omega (arith, w.awaited-is, w.from.ensures)) ∙ step-inner now nodes at w.in-Inner.field-0 w.in-Inner.children c.node-item.result c.if-awaited-eq0.false c.loop-node-test.true (sym c.node-item.is ∙ w.in-Inner.is) w.if-children-lt-LEAST.false w.if-children-gt-MOST.false ∙ c.loop-node.invariant.same;
        small = omega (arith, w.awaited-is, w.from.ensures, w.if-children-gt-MOST.false, c.loop-node.invariant.small);
      }
    ]

pub returns : goal.returns
returns c =
    decides c.args.nodes.now (eqb c.loop-node.awaited 0) (not-empty _ _ c.is_empty.ensures c.if-is_empty.false)
    (sym c.loop-node.invariant.same ∙ step-end c.loop-node.awaited c.args.nodes.now c.loop-node.node-index c.loop-node-test.false)
