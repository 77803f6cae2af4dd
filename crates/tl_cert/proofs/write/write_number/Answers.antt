use Rattle.std.proofs.Common.{◌≡◌, length, arith, rules}
use Rattle.std.proofs.lemmas.Fmt.{length-decimal-le}
use Rattle.tl_cert_output.proofs.PageLemmas.{as_text}
use Rattle.tl_cert.proofs.WriteLemmas.{line_slice}
use Rattle.tl_cert.proofs.write.write_number.Goals as goal

pub write_digits-digits-requires : goal.write_digits-digits-requires
write_digits-digits-requires g c =
    let short = length-decimal-le 20 c.args.number (omega arith) (omega (arith, c.ranges.number.fits)) c.ranges.number.fits in
    (omega (arith, short), omega arith)

pub overflow_sub-line : goal.overflow_sub-line
overflow_sub-line g c =
    let short = length-decimal-le 20 c.args.number (omega arith) (omega (arith, c.ranges.number.fits)) c.ranges.number.fits in
    omega (arith, short, c.write_digits-digits.ensures.start)

pub overflow_sub-line-2 : goal.overflow_sub-line-2
overflow_sub-line-2 g c =
    let short = length-decimal-le 20 c.args.number (omega arith) (omega (arith, c.ranges.number.fits)) c.ranges.number.fits in
    omega (arith, short, c.write_digits-digits.ensures.start)

pub overflow_sub-digits : goal.overflow_sub-digits
overflow_sub-digits g c =
    let short = length-decimal-le 20 c.args.number (omega arith) (omega (arith, c.ranges.number.fits)) c.ranges.number.fits in
    omega (arith, short, c.write_digits-digits.ensures.start)

pub returns : goal.returns
returns g c =
    let page = g.met.P.Page.adding in
    let short = length-decimal-le 20 c.args.number (omega arith) (omega (arith, c.ranges.number.fits)) c.ranges.number.fits in
    let size : length c.write_digits-digits.new.buf ≡ 23 = search rules in
    as_text page c.add.ensures
    (line_slice c.args.letter c.write_digits-digits.result c.args.number 23 c.write_digits-digits.new.buf size
    (omega (arith, short, c.write_digits-digits.ensures.start)) (omega (arith, c.write_digits-digits.ensures.start))
    c.write_digits-digits.ensures.written)
