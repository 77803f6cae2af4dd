use Rattle.std.proofs.Common.{◌≡◌, length, All}
use Rattle.tl_cert.specs.Certificates.{IsNumber}
use Rattle.tl_cert.specs.Text.{item_lines}
use Rattle.tl_cert.specs.Keeping.Lines.{TakesLines}
use Rattle.tl_cert.specs.Keeping.Lines.{at}
use Rattle.tl_cert.proofs.parts.read_items.Given as goal

abbrev pub invariant-loop-index : goal.invariant-loop-index
invariant-loop-index g l = record {
  size : length l.items.items ≡ l.index;
  numbers : All IsNumber l.items.items;
  takes : TakesLines g.R.Source.remaining (at l.fn.lines l.fn.source) (at l.lines l.source) (item_lines l.items.items);
  failures : g.R.Source.failure_count l.source ≡ g.R.Source.failure_count l.fn.source;
  same : g.R.Source.reference l.source ≡ g.R.Source.reference l.fn.source;
}
