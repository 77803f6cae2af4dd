use Rattle.std.proofs.Common.{◌≡◌, ◌≤◌, length, take, All}
use Rattle.tl_record.specs.Lines.{joined_lines}
use Rattle.tl_cert.specs.Certificates.{IsNumber}
use Rattle.tl_cert.specs.Text.{item_lines}
use Rattle.tl_cert.specs.Keeping.Words.{AreFew}
use Rattle.tl_cert.proofs.numbers.front_items.Given as goal

abbrev pub invariant-loop-index : goal.invariant-loop-index
invariant-loop-index l = record {
  size : length l.items.items ≡ l.index;
  numbers : All IsNumber l.items.items;
  within : l.at ≤ length l.bytes;
  spelt : take l.at l.bytes ≡ joined_lines (item_lines l.items.items);
  few : AreFew l.usual;
}
