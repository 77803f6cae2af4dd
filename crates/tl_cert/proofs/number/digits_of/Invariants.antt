use Rattle.std.proofs.Common.{◌≡◌, ◌^◌, ◌<◌, drop}
use Rattle.std.specs.Str.Parse.{AllDigits, digits_value, digits_value_after}
use Rattle.tl_cert.proofs.number.digits_of.Given as goal

abbrev pub invariant-loop-index : goal.invariant-loop-index
invariant-loop-index l = record {
  worth : digits_value_after 10 l.value (drop l.index l.bytes) ≡ digits_value 10 l.bytes;
  back : AllDigits 10 (drop l.index l.bytes) → AllDigits 10 l.bytes;
  onward : AllDigits 10 l.bytes → AllDigits 10 (drop l.index l.bytes);
  small : l.value < 10 ^ l.index;
}
