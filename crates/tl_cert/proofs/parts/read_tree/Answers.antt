use Rattle.std.proofs.Common.{◌≡◌, ◌∷◌, [], ◌+◌, ◌-◌, ℕ, suc, Vec, refl, sym, subst, ◌∙◌, length, arith}
use Rattle.std.specs.Global.{Global}
use Rattle.tl_tree_index.specs.declared.node.TreeNode.{TreeNode}
use Rattle.tl_cert.specs.Text.{numbered_line, nodes_lines, tree_lines}
use Rattle.tl_cert.specs.Keeping.Lines.{TakesLines}
use Rattle.tl_cert.specs.Keeping.Parts.{IsTree, IsNodeRead, IsTreeSoFar}
use Rattle.tl_cert.specs.Keeping.Steps.{counted, tree, roots, no_line}
use Rattle.tl_cert.specs.Keeping.Lines.{at}
use Rattle.tl_cert.proofs.PartLemmas.{takes_none, stops_later, line_missing}
use Rattle.tl_cert.proofs.TreeLemmas.{node_added, no_node, whole_tree, so_far_same, can_some, again}
use Rattle.tl_cert.proofs.AllowedLemmas.{allowed_size}
use Rattle.tl_cert.proofs.FailureLemmas.{fails_later}
use Rattle.tl_cert.proofs.parts.read_tree.Goals as goal

pub returns-in-Err-clause-reads : goal.returns-in-Err-clause-reads
returns-in-Err-clause-reads g c =
    line_missing {T = Vec TreeNode Global} g.R.Source.remaining (numbered_line (84 ∷ [])) _ (λ v. IsTree c.args.version v.items) (λ v. tree_lines c.args.version v.items)
    (counted c.args.version) (counted c.args.version) [] (at c.args.lines.now c.args.source.now) (at c.args.lines.now c.args.source.now) (at c.read.new.self c.read.new.source) (at c.read.new.self c.read.new.source) c.in-Err.stop
    (no_line (counted c.args.version)) (takes_none g.R.Source.remaining (at c.args.lines.now c.args.source.now)) (allowed_size c.args.version) (λ e. cc e) c.in-Err.ensures.reads refl

pub loop-left-init : goal.loop-left-init
loop-left-init g c = record {
  far = subst (λ n. IsTreeSoFar g.R.Source.remaining c.args.version c.in-Ok.count n c.in-Ok.count c.new-nodes.result.items (at c.args.lines.now c.args.source.now) (at c.read.new.self c.read.new.source)) (sym c.roots_of-subtrees.ensures)
      (subst (λ xs. IsTreeSoFar g.R.Source.remaining c.args.version c.in-Ok.count (roots c.in-Ok.count) c.in-Ok.count xs (at c.args.lines.now c.args.source.now) (at c.read.new.self c.read.new.source)) (sym c.new-nodes.ensures.items)
      (no_node g.R.Source.remaining c.args.version c.in-Ok.count (at c.args.lines.now c.args.source.now) (at c.read.new.self c.read.new.source) c.in-Ok.ensures.reads.0.0 c.in-Ok.ensures.reads.0.1 c.in-Ok.ensures.reads.1));
  failures = c.in-Ok.ensures.failures;
  same = c.in-Ok.ensures.same_reference;
}

pub loop-left-preserved : goal.loop-left-preserved
loop-left-preserved g c =
    let far = c.loop-left.invariant.far in
    let p : ℕ = c.loop-left.subtrees - 1 in
    let r : ℕ = c.loop-left.left - 1 in
    let some = can_some c.args.version c.loop-left.subtrees c.loop-left.left far.can c.loop-left-test.true in
    let before = so_far_same g.R.Source.remaining c.args.version c.in-Ok.count c.loop-left.subtrees (suc p) c.loop-left.left (suc r) c.loop-left.nodes.items (at c.args.lines.now c.args.source.now) (at c.loop-left.lines c.loop-left.source)
    (again c.loop-left.subtrees some) (again c.loop-left.left c.loop-left-test.true) far in
    let node = c.in-Ok-read_node.ensures.reads in
    let sum : c.in-Ok-read_node.children + p ≡ p + c.from-subtrees.result = omega (arith, c.from-subtrees.ensures) in
    record {
      far = so_far_same g.R.Source.remaining c.args.version c.in-Ok.count (c.in-Ok-read_node.children + p) (p + c.from-subtrees.result) r r c.push.new.self.items (at c.args.lines.now c.args.source.now) (at c.read_node.new.lines c.read_node.new.source) sum refl
          (node_added g.R.Source.remaining c.args.version c.in-Ok.count p r c.loop-left.nodes.items c.push.new.self.items (c.in-Ok-read_node.node, c.in-Ok-read_node.children) (at c.args.lines.now c.args.source.now) (at c.loop-left.lines c.loop-left.source) (at c.read_node.new.lines c.read_node.new.source)
          before node.0 node.1 c.in-Ok-push.ensures.items);
      failures = c.in-Ok-read_node.ensures.failures ∙ c.loop-left.invariant.failures;
      same = c.in-Ok-read_node.ensures.same_reference ∙ c.loop-left.invariant.same;
    }

pub returns-in-Err-read_node-clause-reads : goal.returns-in-Err-read_node-clause-reads
returns-in-Err-read_node-clause-reads g c =
    let far = c.loop-left.invariant.far in
    let p : ℕ = c.loop-left.subtrees - 1 in
    let r : ℕ = c.loop-left.left - 1 in
    let some = can_some c.args.version c.loop-left.subtrees c.loop-left.left far.can c.loop-left-test.true in
    let before = so_far_same g.R.Source.remaining c.args.version c.in-Ok.count c.loop-left.subtrees (suc p) c.loop-left.left (suc r) c.loop-left.nodes.items (at c.args.lines.now c.args.source.now) (at c.loop-left.lines c.loop-left.source)
    (again c.loop-left.subtrees some) (again c.loop-left.left c.loop-left-test.true) far in
    stops_later {S = TreeNode × ℕ} {T = Vec TreeNode Global} g.R.Source.remaining (IsNodeRead c.args.version p r) (λ read. nodes_lines c.args.version (read.0 ∷ []))
    (λ v. IsTree c.args.version v.items) (λ v. tree_lines c.args.version v.items) (counted c.args.version) (tree c.args.version (suc p) (suc r) 0)
    (numbered_line (84 ∷ []) c.in-Ok.count ∷ nodes_lines c.args.version c.loop-left.nodes.items)
    (at c.args.lines.now c.args.source.now) (at c.loop-left.lines c.loop-left.source) (at c.read_node.new.lines c.read_node.new.source) (at c.read_node.new.lines c.read_node.new.source) c.in-Err-read_node.stop before.runs before.takes c.in-Err-read_node.ensures.reads refl

pub returns-clause-reads : goal.returns-clause-reads
returns-clause-reads g c =
    let far = c.loop-left.invariant.far in
    let nodes = c.loop-left.nodes.items in
    let done : c.loop-left.left ≡ 0 = omega (arith, c.loop-left-test.false) in
    let whole = so_far_same g.R.Source.remaining c.args.version c.in-Ok.count c.loop-left.subtrees c.loop-left.subtrees c.loop-left.left 0 nodes (at c.args.lines.now c.args.source.now) (at c.loop-left.lines c.loop-left.source) refl done far in
    let size : c.in-Ok.count ≡ length nodes = omega (arith, whole.size) in (
      record {
        preorder = whole_tree g.R.Source.remaining c.args.version c.in-Ok.count c.loop-left.subtrees nodes (at c.args.lines.now c.args.source.now) (at c.loop-left.lines c.loop-left.source) whole;
        few = omega (arith, size, c.in-Ok.ensures.reads.0.0);
        each = far.each;
        range = far.range;
      },
      subst (λ n. TakesLines g.R.Source.remaining (at c.args.lines.now c.args.source.now) (at c.loop-left.lines c.loop-left.source) (numbered_line (84 ∷ []) n ∷ nodes_lines c.args.version nodes)) size far.takes,
    )

pub returns-in-Err-clause-failures : goal.returns-in-Err-clause-failures
returns-in-Err-clause-failures g c = fails_later ℕ (Vec TreeNode Global) _ _ _ c.in-Err.stop refl c.in-Err.ensures.failures

pub returns-in-Err-clause-same_reference : goal.returns-in-Err-clause-same_reference
returns-in-Err-clause-same_reference g c = c.in-Err.ensures.same_reference

pub returns-in-Err-push-clause-reads : goal.returns-in-Err-push-clause-reads
returns-in-Err-push-clause-reads g c = tt

pub returns-in-Err-push-clause-failures : goal.returns-in-Err-push-clause-failures
returns-in-Err-push-clause-failures g c = c.in-Ok-read_node.ensures.failures ∙ c.loop-left.invariant.failures

pub returns-in-Err-push-clause-same_reference : goal.returns-in-Err-push-clause-same_reference
returns-in-Err-push-clause-same_reference g c = c.in-Ok-read_node.ensures.same_reference ∙ c.loop-left.invariant.same

pub returns-in-Err-read_node-clause-failures : goal.returns-in-Err-read_node-clause-failures
returns-in-Err-read_node-clause-failures g c = fails_later (TreeNode × ℕ) (Vec TreeNode Global) _ _ _ c.in-Err-read_node.stop c.loop-left.invariant.failures c.in-Err-read_node.ensures.failures

pub returns-in-Err-read_node-clause-same_reference : goal.returns-in-Err-read_node-clause-same_reference
returns-in-Err-read_node-clause-same_reference g c = c.in-Err-read_node.ensures.same_reference ∙ c.loop-left.invariant.same

pub returns-clause-failures : goal.returns-clause-failures
returns-clause-failures g c = c.loop-left.invariant.failures

pub returns-clause-same_reference : goal.returns-clause-same_reference
returns-clause-same_reference g c = c.loop-left.invariant.same

pub read-requires : goal.read-requires
read-requires g c = omega (arith, c.requires.lines)

pub overflow_sub-left : goal.overflow_sub-left
overflow_sub-left g c = omega (arith, c.loop-left-test.true)

pub overflow_sub-subtrees : goal.overflow_sub-subtrees
overflow_sub-subtrees g c =
    let some = can_some c.args.version c.loop-left.subtrees c.loop-left.left c.loop-left.invariant.far.can c.loop-left-test.true in
    omega (arith, some)

pub read_node-requires-clause-version : goal.read_node-requires-clause-version
read_node-requires-clause-version g c = c.requires.version

pub read_node-requires-clause-lines : goal.read_node-requires-clause-lines
read_node-requires-clause-lines g c =
    let far = c.loop-left.invariant.far in
    let lines = far.takes.counted in
    omega (arith, c.requires.lines, lines, far.few, far.size, c.in-Ok.ensures.reads.0.0)
