use Rattle.std.proofs.Common.{◌≡◌, ◌≤◌, zero, suc, inl, inr, ◌∷◌, [], ℕ, Vec, Option, Some, Ok, Err, refl, arith, sym, subst, ◌∙◌}
use Rattle.std.specs.Prelude.{◌⊎◌}
use Rattle.std.specs.Global.{Global}
use Rattle.tl_tree_index.specs.declared.node.TreeNode.{TreeNode}
use Rattle.tl_cert.specs.declared.certificate.Counts.{Counts}
use Rattle.tl_cert.specs.declared.place.NextPart.{NextPart}
use Rattle.tl_cert.specs.declared.place.NextPart.TheVariants.{Start, Counted, Treed, Rounds}
use Rattle.tl_cert.specs.declared.place.CertPart.{CertPart}
use Rattle.tl_cert.specs.declared.place.CertPart.TheVariants as part
use Rattle.tl_cert.specs.Text.{numbered_line, tree_lines}
use Rattle.tl_cert.specs.Keeping.Parts.{IsTree, AreVersionedCounts, versioned_lines}
use Rattle.tl_cert.specs.Keeping.Places.{ReadsPart, FitsPlace}
use Rattle.tl_cert.specs.Keeping.Steps.{at_rounds}
use Rattle.tl_cert.specs.Keeping.Lines.{at}
use Rattle.tl_cert.proofs.AllowedLemmas.{allowed_rounds}
use Rattle.tl_cert.proofs.PlaceLemmas.{passed, pass_rounds, number_missing, stops_part, counts_read, tree_read, known}
use Rattle.tl_cert.proofs.FailureLemmas.{fails_later, tells_later}
use Rattle.tl_cert.proofs.next.read_part.Goals as goal

pub returns-in-Ok-read_tree-clause-reads : goal.returns-in-Ok-read_tree-clause-reads
returns-in-Ok-read_tree-clause-reads g c =
    let nodes = c.in-Ok-read_tree.ensures.reads in
    tree_read g.R.Source.remaining c.args.place c.in-Counted.version c.in-Ok-read_tree.nodes (at c.args.lines.now c.args.source.now) (at c.read_tree.new.lines c.read_tree.new.source) c.in-Counted.is c.requires nodes.0 nodes.1

pub returns-in-Ok-read-clause-reads : goal.returns-in-Ok-read-clause-reads
returns-in-Ok-read-clause-reads g c =
    let small = c.in-Ok-read.ensures.reads.0.0 in
    subst (λ p. ReadsPart g.R.Source.remaining p (at c.args.lines.now c.args.source.now) (at c.read_round.new.lines c.read_round.new.source) c.read_round.result) (sym c.in-Treed.is)
    (passed g.R.Source.remaining (Treed c.in-Treed.field-0) (Rounds c.in-Ok-read.rounds) (numbered_line (78 ∷ []) c.in-Ok-read.rounds) (at c.args.lines.now c.args.source.now) (at c.read.new.self c.read.new.source) (at c.read_round.new.lines c.read_round.new.source) c.read_round.result
    (pass_rounds c.in-Treed.field-0 c.in-Ok-read.rounds small) (omega (arith, small)) (λ given then h. h) tt (at_rounds c.in-Treed.field-0 c.in-Ok-read.rounds small) c.in-Ok-read.ensures.reads.1 c.read_round.ensures.reads refl)

pub returns-in-Err-read-clause-reads : goal.returns-in-Err-read-clause-reads
returns-in-Err-read-clause-reads g c =
    subst (λ p. ReadsPart g.R.Source.remaining p (at c.args.lines.now c.args.source.now) (at c.read.new.self c.read.new.source) (Err c.in-Err-read.stop)) (sym c.in-Treed.is)
    (number_missing g.R.Source.remaining 78 (Treed c.in-Treed.field-0) (at c.args.lines.now c.args.source.now) (at c.read.new.self c.read.new.source) (at c.read.new.self c.read.new.source) c.in-Err-read.stop (allowed_rounds c.in-Treed.field-0) (λ e. cc e) c.in-Err-read.ensures.reads)

pub returns-in-Rounds-clause-reads : goal.returns-in-Rounds-clause-reads
returns-in-Rounds-clause-reads g c =
    subst (λ p. ReadsPart g.R.Source.remaining p (at c.args.lines.now c.args.source.now) (at c.read_round-in-Rounds.new.lines c.read_round-in-Rounds.new.source) c.read_round-in-Rounds.result) (sym c.in-Rounds.is)
    c.read_round-in-Rounds.ensures.reads

pub returns-in-Walks-clause-reads : goal.returns-in-Walks-clause-reads
returns-in-Walks-clause-reads g c =
    subst (λ p. ReadsPart g.R.Source.remaining p (at c.args.lines.now c.args.source.now) (at c.read_walk.new.lines c.read_walk.new.source) c.read_walk.result) (sym c.in-Walks.is)
    c.read_walk.ensures.reads

pub returns-in-Ok-clause-reads : goal.returns-in-Ok-clause-reads
returns-in-Ok-clause-reads g c =
    let counts = c.in-Ok.counts in
    let version = c.in-Ok.version in
    let none = subst (λ p. FitsPlace p c.args.lines.now.lines) c.in-Start.is c.requires in
    subst (λ p. ReadsPart g.R.Source.remaining p (at c.args.lines.now c.args.source.now) (at c.read_counts.new.lines c.read_counts.new.source) (Ok (Some (part.Counts counts version, Counted version)))) (sym c.in-Start.is)
    (counts_read g.R.Source.remaining counts version (at c.args.lines.now c.args.source.now) (at c.read_counts.new.lines c.read_counts.new.source) none c.in-Ok.ensures.reads.0 c.in-Ok.ensures.reads.1)

pub returns-in-Ok-clause-failures : goal.returns-in-Ok-clause-failures
returns-in-Ok-clause-failures g c = c.in-Ok.ensures.failures

pub returns-in-Ok-clause-same_reference : goal.returns-in-Ok-clause-same_reference
returns-in-Ok-clause-same_reference g c = c.in-Ok.ensures.same_reference

pub returns-in-Err-clause-reads : goal.returns-in-Err-clause-reads
returns-in-Err-clause-reads g c =
    subst (λ p. ReadsPart g.R.Source.remaining p (at c.args.lines.now c.args.source.now) (at c.read_counts.new.lines c.read_counts.new.source) (Err c.in-Err.stop)) (sym c.in-Start.is)
    (stops_part {T = Counts × ℕ} g.R.Source.remaining AreVersionedCounts versioned_lines Start (at c.args.lines.now c.args.source.now) (at c.read_counts.new.lines c.read_counts.new.source) (at c.read_counts.new.lines c.read_counts.new.source) c.in-Err.stop c.in-Err.ensures.reads)

pub returns-in-Err-clause-failures : goal.returns-in-Err-clause-failures
returns-in-Err-clause-failures g c = fails_later (Counts × ℕ) (Option (CertPart × NextPart)) _ _ _ c.in-Err.stop refl c.in-Err.ensures.failures

pub returns-in-Err-clause-same_reference : goal.returns-in-Err-clause-same_reference
returns-in-Err-clause-same_reference g c = c.in-Err.ensures.same_reference

pub returns-in-Ok-read_tree-clause-failures : goal.returns-in-Ok-read_tree-clause-failures
returns-in-Ok-read_tree-clause-failures g c = c.in-Ok-read_tree.ensures.failures

pub returns-in-Ok-read_tree-clause-same_reference : goal.returns-in-Ok-read_tree-clause-same_reference
returns-in-Ok-read_tree-clause-same_reference g c = c.in-Ok-read_tree.ensures.same_reference

pub returns-in-Err-read_tree-clause-reads : goal.returns-in-Err-read_tree-clause-reads
returns-in-Err-read_tree-clause-reads g c =
    let version = c.in-Counted.version in
    subst (λ p. ReadsPart g.R.Source.remaining p (at c.args.lines.now c.args.source.now) (at c.read_tree.new.lines c.read_tree.new.source) (Err c.in-Err-read_tree.stop)) (sym c.in-Counted.is)
    (stops_part {T = Vec TreeNode Global} g.R.Source.remaining (λ v. IsTree version v.items) (λ v. tree_lines version v.items) (Counted version) (at c.args.lines.now c.args.source.now) (at c.read_tree.new.lines c.read_tree.new.source) (at c.read_tree.new.lines c.read_tree.new.source) c.in-Err-read_tree.stop c.in-Err-read_tree.ensures.reads)

pub returns-in-Err-read_tree-clause-failures : goal.returns-in-Err-read_tree-clause-failures
returns-in-Err-read_tree-clause-failures g c = fails_later (Vec TreeNode Global) (Option (CertPart × NextPart)) _ _ _ c.in-Err-read_tree.stop refl c.in-Err-read_tree.ensures.failures

pub returns-in-Err-read_tree-clause-same_reference : goal.returns-in-Err-read_tree-clause-same_reference
returns-in-Err-read_tree-clause-same_reference g c = c.in-Err-read_tree.ensures.same_reference

pub returns-in-Ok-read-clause-failures : goal.returns-in-Ok-read-clause-failures
returns-in-Ok-read-clause-failures g c = tells_later (Option (CertPart × NextPart)) _ _ _ c.read_round.result c.in-Ok-read.ensures.failures c.read_round.ensures.failures

pub returns-in-Ok-read-clause-same_reference : goal.returns-in-Ok-read-clause-same_reference
returns-in-Ok-read-clause-same_reference g c = c.read_round.ensures.same_reference ∙ c.in-Ok-read.ensures.same_reference

pub returns-in-Err-read-clause-failures : goal.returns-in-Err-read-clause-failures
returns-in-Err-read-clause-failures g c = fails_later ℕ (Option (CertPart × NextPart)) _ _ _ c.in-Err-read.stop refl c.in-Err-read.ensures.failures

pub returns-in-Err-read-clause-same_reference : goal.returns-in-Err-read-clause-same_reference
returns-in-Err-read-clause-same_reference g c = c.in-Err-read.ensures.same_reference

pub returns-in-Rounds-clause-failures : goal.returns-in-Rounds-clause-failures
returns-in-Rounds-clause-failures g c = c.read_round-in-Rounds.ensures.failures

pub returns-in-Rounds-clause-same_reference : goal.returns-in-Rounds-clause-same_reference
returns-in-Rounds-clause-same_reference g c = c.read_round-in-Rounds.ensures.same_reference

pub returns-in-Walks-clause-failures : goal.returns-in-Walks-clause-failures
returns-in-Walks-clause-failures g c = c.read_walk.ensures.failures

pub returns-in-Walks-clause-same_reference : goal.returns-in-Walks-clause-same_reference
returns-in-Walks-clause-same_reference g c = c.read_walk.ensures.same_reference

pub read_counts-requires : goal.read_counts-requires
read_counts-requires g c = let fits = subst (λ p. FitsPlace p c.args.lines.now.lines) c.in-Start.is c.requires in omega (arith, fits)

pub read_tree-requires-clause-lines : goal.read_tree-requires-clause-lines
read_tree-requires-clause-lines g c = let fits = subst (λ p. FitsPlace p c.args.lines.now.lines) c.in-Counted.is c.requires in omega (arith, fits.1.1)

pub read_tree-requires-clause-version : goal.read_tree-requires-clause-version
read_tree-requires-clause-version g c = let fits = subst (λ p. FitsPlace p c.args.lines.now.lines) c.in-Counted.is c.requires in known c.in-Counted.version fits.0 fits.1.0

pub read-requires : goal.read-requires
read-requires g c = let fits = subst (λ p. FitsPlace p c.args.lines.now.lines) c.in-Treed.is c.requires in omega (arith, fits.1.1)

pub read_round-requires : goal.read_round-requires
read_round-requires g c = let fits = subst (λ p. FitsPlace p c.args.lines.now.lines) c.in-Treed.is c.requires in
    let counted = c.in-Ok-read.ensures.reads.1.counted in
    omega (arith, fits.1.1, counted, c.in-Ok-read.ensures.reads.0.0)

pub read_round-requires-in-Rounds : goal.read_round-requires-in-Rounds
read_round-requires-in-Rounds g c = subst (λ p. FitsPlace p c.args.lines.now.lines) c.in-Rounds.is c.requires

pub read_walk-requires : goal.read_walk-requires
read_walk-requires g c = subst (λ p. FitsPlace p c.args.lines.now.lines) c.in-Walks.is c.requires
