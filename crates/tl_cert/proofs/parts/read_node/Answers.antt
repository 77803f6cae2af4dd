use Rattle.std.proofs.Common.{◌∷◌, [], ℕ, suc, refl, ◌∙◌, arith}
use Rattle.arrayvec.specs.ArrayVec.{ArrayVec}
use Rattle.tl_tree_index.specs.declared.node.TreeNode.{TreeNode}
use Rattle.tl_cert.specs.declared.node_line.NodeStart.{NodeStart}
use Rattle.tl_cert.specs.declared.node_line.NodeStart.TheVariants.{Inner, Leaf}
use Rattle.tl_cert.specs.Text.{leaf_line, item_lines, nodes_lines}
use Rattle.tl_cert.specs.Keeping.Kinds.{node_line}
use Rattle.tl_cert.specs.Keeping.Parts.{AreItems, IsNodeRead}
use Rattle.tl_cert.specs.Keeping.Steps.{tree, no_line}
use Rattle.tl_cert.specs.Keeping.Lines.{at}
use Rattle.tl_cert.proofs.PartLemmas.{takes_none, stops_later, line_missing, stage_items}
use Rattle.tl_cert.proofs.TreeLemmas.{inner_read, leaf_read, leaf_run, leaf_takes, told_as}
use Rattle.tl_cert.proofs.AllowedLemmas.{allowed_node}
use Rattle.tl_cert.proofs.FailureLemmas.{fails_later}
use Rattle.tl_cert.proofs.parts.read_node.Goals as goal

pub returns-in-Ok-Inner-clause-reads : goal.returns-in-Ok-Inner-clause-reads
returns-in-Ok-Inner-clause-reads g c =
    let reads = told_as g.R.Source.remaining c.args.version c.args.subtrees c.args.left (at c.args.lines.now c.args.source.now) (at c.read.new.self c.read.new.source) c.in-Ok-Inner.field-0 (Inner c.in-Ok-Inner.rect c.in-Ok-Inner.children) c.in-Ok-Inner.field-0-is c.in-Ok-Inner.ensures.reads in
    (inner_read c.args.version c.args.subtrees c.args.left c.in-Ok-Inner.rect c.in-Ok-Inner.children reads.0.0.0 reads.0.0.1 reads.0.1, reads.1)

pub returns-in-Ok-clause-reads : goal.returns-in-Ok-clause-reads
returns-in-Ok-clause-reads g c =
    let start = told_as g.R.Source.remaining c.args.version c.args.subtrees c.args.left (at c.args.lines.now c.args.source.now) (at c.read.new.self c.read.new.source) c.in-Ok-Leaf.field-0 (Leaf c.in-Ok-Leaf.rect c.in-Ok-Leaf.count) c.in-Ok-Leaf.field-0-is c.in-Ok-Leaf.ensures.reads in
    let items = c.in-Ok.ensures.reads c.args.version c.args.subtrees c.args.left in (
      leaf_read c.args.version c.args.subtrees c.args.left c.in-Ok-Leaf.rect c.in-Ok-Leaf.count c.in-Ok.items start.0.0.0 start.0.0.1 start.0.0.2 start.0.1 items.0,
      leaf_takes g.R.Source.remaining c.args.version c.in-Ok-Leaf.rect c.in-Ok-Leaf.count c.in-Ok.items (at c.args.lines.now c.args.source.now) (at c.read.new.self c.read.new.source) (at c.read_items.new.lines c.read_items.new.source) items.0.0 start.1 items.1,
    )

pub returns-in-Err-read_items-clause-reads : goal.returns-in-Err-read_items-clause-reads
returns-in-Err-read_items-clause-reads g c =
    let start = told_as g.R.Source.remaining c.args.version c.args.subtrees c.args.left (at c.args.lines.now c.args.source.now) (at c.read.new.self c.read.new.source) c.in-Ok-Leaf.field-0 (Leaf c.in-Ok-Leaf.rect c.in-Ok-Leaf.count) c.in-Ok-Leaf.field-0-is c.in-Ok-Leaf.ensures.reads in
    stops_later {S = ArrayVec ℕ} {T = TreeNode × ℕ} g.R.Source.remaining (AreItems c.in-Ok-Leaf.count) (λ v. item_lines v.items)
    (IsNodeRead c.args.version c.args.subtrees c.args.left) (λ read. nodes_lines c.args.version (read.0 ∷ []))
    (tree c.args.version (suc c.args.subtrees) (suc c.args.left) 0) (tree c.args.version c.args.subtrees c.args.left c.in-Ok-Leaf.count) (leaf_line c.in-Ok-Leaf.rect c.in-Ok-Leaf.count ∷ [])
    (at c.args.lines.now c.args.source.now) (at c.read.new.self c.read.new.source) (at c.read_items.new.lines c.read_items.new.source) (at c.read_items.new.lines c.read_items.new.source) c.in-Err-read_items.stop
    (leaf_run c.args.version c.args.subtrees c.args.left c.in-Ok-Leaf.rect c.in-Ok-Leaf.count start.0.0.0 start.0.0.1 start.0.0.2 start.0.1)
    start.1 (c.in-Err-read_items.ensures.reads c.args.version c.args.subtrees c.args.left)
    (stage_items c.args.version c.args.subtrees c.args.left c.in-Ok-Leaf.count start.0.0.1)

pub returns-in-Err-clause-reads : goal.returns-in-Err-clause-reads
returns-in-Err-clause-reads g c =
    let here = tree c.args.version (suc c.args.subtrees) (suc c.args.left) 0 in
    line_missing {T = TreeNode × ℕ} g.R.Source.remaining (node_line c.args.version) _ (IsNodeRead c.args.version c.args.subtrees c.args.left) (λ read. nodes_lines c.args.version (read.0 ∷ []))
    here here [] (at c.args.lines.now c.args.source.now) (at c.args.lines.now c.args.source.now) (at c.read.new.self c.read.new.source) (at c.read.new.self c.read.new.source) c.in-Err.stop
    (no_line here) (takes_none g.R.Source.remaining (at c.args.lines.now c.args.source.now)) (allowed_node c.args.version c.args.subtrees c.args.left c.requires.version) (λ e. cc e) c.in-Err.ensures.reads refl

pub returns-in-Ok-Inner-clause-failures : goal.returns-in-Ok-Inner-clause-failures
returns-in-Ok-Inner-clause-failures g c = c.in-Ok-Inner.ensures.failures

pub returns-in-Ok-Inner-clause-same_reference : goal.returns-in-Ok-Inner-clause-same_reference
returns-in-Ok-Inner-clause-same_reference g c = c.in-Ok-Inner.ensures.same_reference

pub returns-in-Ok-clause-failures : goal.returns-in-Ok-clause-failures
returns-in-Ok-clause-failures g c = c.in-Ok.ensures.failures ∙ c.in-Ok-Leaf.ensures.failures

pub returns-in-Ok-clause-same_reference : goal.returns-in-Ok-clause-same_reference
returns-in-Ok-clause-same_reference g c = c.in-Ok.ensures.same_reference ∙ c.in-Ok-Leaf.ensures.same_reference

pub returns-in-Err-read_items-clause-failures : goal.returns-in-Err-read_items-clause-failures
returns-in-Err-read_items-clause-failures g c = fails_later (ArrayVec ℕ) (TreeNode × ℕ) _ _ _ c.in-Err-read_items.stop c.in-Ok-Leaf.ensures.failures c.in-Err-read_items.ensures.failures

pub returns-in-Err-read_items-clause-same_reference : goal.returns-in-Err-read_items-clause-same_reference
returns-in-Err-read_items-clause-same_reference g c = c.in-Err-read_items.ensures.same_reference ∙ c.in-Ok-Leaf.ensures.same_reference

pub returns-in-Err-clause-failures : goal.returns-in-Err-clause-failures
returns-in-Err-clause-failures g c = fails_later NodeStart (TreeNode × ℕ) _ _ _ c.in-Err.stop refl c.in-Err.ensures.failures

pub returns-in-Err-clause-same_reference : goal.returns-in-Err-clause-same_reference
returns-in-Err-clause-same_reference g c = c.in-Err.ensures.same_reference

pub read-requires : goal.read-requires
read-requires g c = omega (arith, c.requires.lines)

pub read_items-requires-clause-lines : goal.read_items-requires-clause-lines
read_items-requires-clause-lines g c = let counted = c.in-Ok-Leaf.ensures.reads.1.counted in omega (arith, c.requires.lines, counted)
