use Rattle.std.proofs.Common.{◌≡◌, ◌∷◌, [], decimal, length, ap, arith, rules}
use Rattle.tl_cert.specs.Text.{number}
use Rattle.tl_cert.proofs.PutLemmas.{few_digits, room_left, puts_both, puts_digits}
use Rattle.tl_cert.proofs.put.put_word.Goals as goal

pub write_digits-digits-requires : goal.write_digits-digits-requires
write_digits-digits-requires c =
    let few = few_digits c.from.result (omega (arith, c.from.ensures, c.ranges.n.fits)) in
    (omega (arith, few, c.requires.room), c.requires.within)

pub put_byte-requires : goal.put_byte-requires
put_byte-requires c =
    let size : length c.write_digits-digits.new.buf ≡ length c.args.text.now = search rules in
    let digits = puts_digits c.from.result c.args.end c.write_digits-digits.result c.args.text.now c.write_digits-digits.new.buf
    (omega (arith, c.from.ensures, c.ranges.n.fits)) c.write_digits-digits.ensures.start c.write_digits-digits.ensures.written size in
    room_left 11 10 1 c.args.end c.write_digits-digits.result c.args.text.now c.write_digits-digits.new.buf _ (omega arith) c.requires digits

pub returns : goal.returns
returns c =
    let size : length c.write_digits-digits.new.buf ≡ length c.args.text.now = search rules in
    let digits = puts_digits c.from.result c.args.end c.write_digits-digits.result c.args.text.now c.write_digits-digits.new.buf
    (omega (arith, c.from.ensures, c.ranges.n.fits)) c.write_digits-digits.ensures.start c.write_digits-digits.ensures.written size in
    puts_both 11 10 1 c.args.end c.write_digits-digits.result c.put_byte.result c.args.text.now c.write_digits-digits.new.buf c.put_byte.new.text
    (32 ∷ []) (decimal c.from.result) _ (omega arith) digits c.put_byte.ensures (ap number c.from.ensures)
