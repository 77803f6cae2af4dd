use Rattle.std.proofs.Common.{◌≡◌, ◌^◌, ◌<◌, true, take}
use Rattle.std.specs.List.{list_all}
use Rattle.std.specs.Char.{is_ascii_digit}
use Rattle.tl_record.specs.Fields.{decimal}
use Rattle.tl_record.proofs.number.digits_spell.Given as goal

abbrev pub invariant-loop-byte : goal.invariant-loop-byte
invariant-loop-byte l = record {
  digits : list_all is_ascii_digit (take l.byte-index l.bytes) ≡ true;
  value : l.value ≡ decimal (take l.byte-index l.bytes);
  below : l.value < 10 ^ l.byte-index;
}
