use Rattle.std.proofs.Common.{◌≡◌, ◌≤◌, length, take, All}
use Rattle.tl_record.specs.Lines.{joined_lines}
use Rattle.tl_cert.specs.Certificates.{IsNumber}
use Rattle.tl_cert.specs.Text.{dart_lines}
use Rattle.tl_cert.specs.Keeping.Words.{AreFew}
use Rattle.tl_cert.proofs.numbers.front_darts.Given as goal

abbrev pub invariant-loop-index : goal.invariant-loop-index
invariant-loop-index l = record {
  size : length l.darts.items ≡ l.index;
  numbers : All IsNumber l.darts.items;
  within : l.at ≤ length l.bytes;
  spelt : take l.at l.bytes ≡ joined_lines (dart_lines l.darts.items);
  few : AreFew l.usual;
}
