use Rattle.std.proofs.Common.{◌≡◌, ◌<◌, ◌^◌, ◌∷◌, [], decimal, length, refl, ap, arith, rules}
use Rattle.std.specs.Fmt.{signed_decimal}
use Rattle.tl_cert.proofs.PutLemmas.{few_digits, room_left, puts_both, puts_digits}
use Rattle.tl_cert.proofs.put.put_coordinate.Goals as goal

pub write_digits-digits-requires : goal.write_digits-digits-requires
write_digits-digits-requires c =
    let few = few_digits c.from.result (omega (arith, c.from.ensures, c.unsigned_abs.ensures.bound)) in
    (omega (arith, few, c.requires.room), c.requires.within)

pub put_byte-sign-requires : goal.put_byte-sign-requires
put_byte-sign-requires c =
    let small : c.from.result < 2 ^ 32 = omega (arith, c.from.ensures, c.unsigned_abs.ensures.bound) in
    let size : length c.write_digits-digits.new.buf ≡ length c.args.text.now = search rules in
    let digits = puts_digits c.from.result c.args.end c.write_digits-digits.result c.args.text.now c.write_digits-digits.new.buf
    small c.write_digits-digits.ensures.start c.write_digits-digits.ensures.written size in
    room_left 12 10 1 c.args.end c.write_digits-digits.result c.args.text.now c.write_digits-digits.new.buf _ (omega arith) c.requires digits

pub put_byte-requires : goal.put_byte-requires
put_byte-requires c =
    let small : c.from.result < 2 ^ 32 = omega (arith, c.from.ensures, c.unsigned_abs.ensures.bound) in
    let size : length c.write_digits-digits.new.buf ≡ length c.args.text.now = search rules in
    let digits = puts_digits c.from.result c.args.end c.write_digits-digits.result c.args.text.now c.write_digits-digits.new.buf
    small c.write_digits-digits.ensures.start c.write_digits-digits.ensures.written size in
    room_left 12 11 1 c.args.end c.put_byte-sign.result c.args.text.now c.put_byte-sign.new.text _ (omega arith) c.requires
    (puts_both 11 10 1 _ _ _ _ _ _ (45 ∷ []) (decimal c.from.result) _ (omega arith) digits c.put_byte-sign.ensures refl)

pub returns-then-z-lt0 : goal.returns-then-z-lt0
returns-then-z-lt0 c =
    let small : c.from.result < 2 ^ 32 = omega (arith, c.from.ensures, c.unsigned_abs.ensures.bound) in
    let size : length c.write_digits-digits.new.buf ≡ length c.args.text.now = search rules in
    let digits = puts_digits c.from.result c.args.end c.write_digits-digits.result c.args.text.now c.write_digits-digits.new.buf
    small c.write_digits-digits.ensures.start c.write_digits-digits.ensures.written size in
    let spelt : 45 ∷ decimal c.from.result ≡ signed_decimal c.args.z = search rules in
    puts_both 12 11 1 _ _ _ _ _ _ (32 ∷ []) (45 ∷ decimal c.from.result) _ (omega arith)
    (puts_both 11 10 1 _ _ _ _ _ _ (45 ∷ []) (decimal c.from.result) _ (omega arith) digits c.put_byte-sign.ensures refl)
    c.put_byte.ensures (ap (λ l. 32 ∷ l) spelt)

pub put_byte-requires-2 : goal.put_byte-requires-2
put_byte-requires-2 c =
    let small : c.from.result < 2 ^ 32 = omega (arith, c.from.ensures, c.unsigned_abs.ensures.bound) in
    let size : length c.write_digits-digits.new.buf ≡ length c.args.text.now = search rules in
    let digits = puts_digits c.from.result c.args.end c.write_digits-digits.result c.args.text.now c.write_digits-digits.new.buf
    small c.write_digits-digits.ensures.start c.write_digits-digits.ensures.written size in
    room_left 12 10 1 c.args.end c.write_digits-digits.result c.args.text.now c.write_digits-digits.new.buf _ (omega arith) c.requires digits

pub returns : goal.returns
returns c =
    let small : c.from.result < 2 ^ 32 = omega (arith, c.from.ensures, c.unsigned_abs.ensures.bound) in
    let size : length c.write_digits-digits.new.buf ≡ length c.args.text.now = search rules in
    let digits = puts_digits c.from.result c.args.end c.write_digits-digits.result c.args.text.now c.write_digits-digits.new.buf
    small c.write_digits-digits.ensures.start c.write_digits-digits.ensures.written size in
    let spelt : decimal c.from.result ≡ signed_decimal c.args.z = search rules in
    puts_both 12 10 1 _ _ _ _ _ _ (32 ∷ []) (decimal c.from.result) _ (omega arith) digits c.put_byte-2.ensures (ap (λ l. 32 ∷ l) spelt)
