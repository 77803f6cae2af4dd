use Rattle.std.proofs.Common.{rules, sym, arith}
use Rattle.tl_cert.proofs.FrontLemmas.{short_spelt}
use Rattle.tl_cert.proofs.front.number_of_digits.Goals as goal

pub returns : goal.returns
returns c =
    let first = c.in-Some.ensures in (
      omega (arith, first.fits),
      record {
        within = omega (arith, c.requires.1, c.if-bytes-lt8.false);
        feed = omega (arith, c.if-bytes-digits-ne10.false);
        spelt = short_spelt c.args.bytes.now c.in-Ok.eight c.args.digits c.in-Some.value (search rules) (omega (arith, c.requires.0)) (omega (arith, c.requires.1)) (omega (arith, c.requires.1, c.if-bytes-lt8.false)) (λ e. absurd (c.if-bytes-eq48.false e)) first.digits (sym first.value) (omega (arith, first.fits));
      },
    )

pub returns-in_default : goal.returns-in_default
returns-in_default c = tt

pub returns-in_default-first_digits : goal.returns-in_default-first_digits
returns-in_default-first_digits c = tt

pub returns-then-bytes-digits-ne10 : goal.returns-then-bytes-digits-ne10
returns-then-bytes-digits-ne10 c = tt

pub returns-then-bytes-eq48 : goal.returns-then-bytes-eq48
returns-then-bytes-eq48 c = tt

pub returns-then-bytes-lt8 : goal.returns-then-bytes-lt8
returns-then-bytes-lt8 c = tt
