use Rattle.std.proofs.Common.{rules, ◌/◌, refl, arith}
use Rattle.std.specs.Int.{w64, trailing_zeros}
use Rattle.std.specs.Int.Bits.{bit_xor}
use Rattle.tl_record.specs.Word.{IsWordOf}
use Rattle.tl_record.proofs.MovedDigits.{behind_zeros, without_zero, without, leads, value_behind}
use Rattle.tl_record.proofs.word.leading_digits.Goals as goal

pub digits_value-requires : goal.digits_value-requires
digits_value-requires c =
    let word = c.from_le_bytes-digits.result in
    let count = trailing_zeros w64 c.above_nine-others.result / 8 in
    let of : IsWordOf c.args.bytes word = record { eight = search rules; below = search rules; is = c.from_le_bytes-digits.ensures } in
    let shown = leads c.args.bytes word (bit_xor word 3472328296227680304) c.above_nine-others.result count of refl (c.above_nine-others.ensures (without_zero c.args.bytes) (without c.args.bytes word of))
    (omega (arith, c.if-others-eq0.false)) c.above_nine-others.type_inv refl (omega (arith, c.if-count-eq0.false)) in
    (behind_zeros count c.args.bytes, shown.word, shown.all)

pub returns-clause-digits : goal.returns-clause-digits
returns-clause-digits c =
    let word = c.from_le_bytes-digits.result in
    let count = trailing_zeros w64 c.above_nine-others.result / 8 in
    let of : IsWordOf c.args.bytes word = record { eight = search rules; below = search rules; is = c.from_le_bytes-digits.ensures } in
    let shown = leads c.args.bytes word (bit_xor word 3472328296227680304) c.above_nine-others.result count of refl (c.above_nine-others.ensures (without_zero c.args.bytes) (without c.args.bytes word of))
    (omega (arith, c.if-others-eq0.false)) c.above_nine-others.type_inv refl (omega (arith, c.if-count-eq0.false)) in
    shown.first

pub returns-clause-value : goal.returns-clause-value
returns-clause-value c =
    let word = c.from_le_bytes-digits.result in
    let count = trailing_zeros w64 c.above_nine-others.result / 8 in
    let of : IsWordOf c.args.bytes word = record { eight = search rules; below = search rules; is = c.from_le_bytes-digits.ensures } in
    let shown = leads c.args.bytes word (bit_xor word 3472328296227680304) c.above_nine-others.result count of refl (c.above_nine-others.ensures (without_zero c.args.bytes) (without c.args.bytes word of))
    (omega (arith, c.if-others-eq0.false)) c.above_nine-others.type_inv refl (omega (arith, c.if-count-eq0.false)) in
    value_behind count c.digits_value.result c.args.bytes (c.digits_value.ensures (behind_zeros count c.args.bytes) shown.word shown.all).0

pub returns-clause-fits : goal.returns-clause-fits
returns-clause-fits c =
    let word = c.from_le_bytes-digits.result in
    let count = trailing_zeros w64 c.above_nine-others.result / 8 in
    let of : IsWordOf c.args.bytes word = record { eight = search rules; below = search rules; is = c.from_le_bytes-digits.ensures } in
    let shown = leads c.args.bytes word (bit_xor word 3472328296227680304) c.above_nine-others.result count of refl (c.above_nine-others.ensures (without_zero c.args.bytes) (without c.args.bytes word of))
    (omega (arith, c.if-others-eq0.false)) c.above_nine-others.type_inv refl (omega (arith, c.if-count-eq0.false)) in
    (c.digits_value.ensures (behind_zeros count c.args.bytes) shown.word shown.all).1
