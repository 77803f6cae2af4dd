use Rattle.std.proofs.Common.{◌≡◌, ◌∷◌, [], length, All}
use Rattle.tl_cert.specs.Certificates.{IsNumber}
use Rattle.tl_cert.specs.Text.{numbered_line, dart_lines}
use Rattle.tl_cert.specs.Keeping.Lines.{TakesLines}
use Rattle.tl_cert.specs.Keeping.Parts.{letter_of}
use Rattle.tl_cert.specs.Keeping.Lines.{at}
use Rattle.tl_cert.proofs.parts.read_darts.Given as goal

abbrev pub invariant-loop-index : goal.invariant-loop-index
invariant-loop-index g l = record {
  size : length l.darts.items ≡ l.index;
  numbers : All IsNumber l.darts.items;
  takes : TakesLines g.R.Source.remaining (at l.fn.lines l.fn.source) (at l.lines l.source) (numbered_line (letter_of l.fn.lists ∷ []) l.count ∷ dart_lines l.darts.items);
  failures : g.R.Source.failure_count l.source ≡ g.R.Source.failure_count l.fn.source;
  same : g.R.Source.reference l.source ≡ g.R.Source.reference l.fn.source;
}
