use Rattle.std.proofs.Common.{rules, ◌-◌, ◌++◌, replicate, take, refl, sym}
use Rattle.std.specs.Int.Bits.{bit_xor}
use Rattle.tl_record.specs.Word.{IsWordOf}
use Rattle.tl_record.proofs.MovedDigits.{behind_zeros, without_zero, without, moved_word, first_leads, value_behind}
use Rattle.tl_record.proofs.word.first_digits.Goals as goal

pub digits_value-requires : goal.digits_value-requires
digits_value-requires c =
    let word = c.from_le_bytes.result in
    let count = c.args.count in
    let of : IsWordOf c.args.bytes word = record { eight = search rules; below = search rules; is = c.from_le_bytes.ensures } in
    let moved = replicate (8 - count) 0 ++ take count (without_zero c.args.bytes) in
    let bits = c.has_above_nine.ensures c.if-has_above_nine.false moved (moved_word count (without_zero c.args.bytes) (bit_xor word 3472328296227680304) c.requires.some c.requires.few (without c.args.bytes word of)) in
    let shown = first_leads c.args.bytes word count 0 of c.requires.some c.requires.few bits refl in
    (behind_zeros count c.args.bytes, shown.word, shown.all)

pub returns-clause-digits : goal.returns-clause-digits
returns-clause-digits c =
    let word = c.from_le_bytes.result in
    let count = c.args.count in
    let of : IsWordOf c.args.bytes word = record { eight = search rules; below = search rules; is = c.from_le_bytes.ensures } in
    let moved = replicate (8 - count) 0 ++ take count (without_zero c.args.bytes) in
    let bits = c.has_above_nine.ensures c.if-has_above_nine.false moved (moved_word count (without_zero c.args.bytes) (bit_xor word 3472328296227680304) c.requires.some c.requires.few (without c.args.bytes word of)) in
    let shown = first_leads c.args.bytes word count 0 of c.requires.some c.requires.few bits refl in
    shown.first

pub returns-clause-value : goal.returns-clause-value
returns-clause-value c =
    let word = c.from_le_bytes.result in
    let count = c.args.count in
    let of : IsWordOf c.args.bytes word = record { eight = search rules; below = search rules; is = c.from_le_bytes.ensures } in
    let moved = replicate (8 - count) 0 ++ take count (without_zero c.args.bytes) in
    let bits = c.has_above_nine.ensures c.if-has_above_nine.false moved (moved_word count (without_zero c.args.bytes) (bit_xor word 3472328296227680304) c.requires.some c.requires.few (without c.args.bytes word of)) in
    let shown = first_leads c.args.bytes word count 0 of c.requires.some c.requires.few bits refl in
    sym (value_behind count c.digits_value.result c.args.bytes (c.digits_value.ensures (behind_zeros count c.args.bytes) shown.word shown.all).0)

pub returns-clause-fits : goal.returns-clause-fits
returns-clause-fits c =
    let word = c.from_le_bytes.result in
    let count = c.args.count in
    let of : IsWordOf c.args.bytes word = record { eight = search rules; below = search rules; is = c.from_le_bytes.ensures } in
    let moved = replicate (8 - count) 0 ++ take count (without_zero c.args.bytes) in
    let bits = c.has_above_nine.ensures c.if-has_above_nine.false moved (moved_word count (without_zero c.args.bytes) (bit_xor word 3472328296227680304) c.requires.some c.requires.few (without c.args.bytes word of)) in
    let shown = first_leads c.args.bytes word count 0 of c.requires.some c.requires.few bits refl in
    (c.digits_value.ensures (behind_zeros count c.args.bytes) shown.word shown.all).1
