use Rattle.std.proofs.Common.{◌≡◌}
use Rattle.tl_cert.specs.Keeping.Parts.{IsTreeSoFar}
use Rattle.tl_cert.specs.Keeping.Lines.{at}
use Rattle.tl_cert.proofs.parts.read_tree.Given as goal

abbrev pub invariant-loop-left : goal.invariant-loop-left
invariant-loop-left g l = record {
  far : IsTreeSoFar g.R.Source.remaining l.version l.count l.subtrees l.left l.nodes.items (at l.fn.lines l.fn.source) (at l.lines l.source);
  failures : g.R.Source.failure_count l.source ≡ g.R.Source.failure_count l.fn.source;
  same : g.R.Source.reference l.source ≡ g.R.Source.reference l.fn.source;
}

abbrev pub decreases-loop-left : goal.decreases-loop-left
decreases-loop-left g l = l.left
