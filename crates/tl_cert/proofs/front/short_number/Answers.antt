use Rattle.std.proofs.Common.{rules, arith}
use Rattle.tl_cert.proofs.FrontLemmas.{short_spelt}
use Rattle.tl_cert.proofs.front.short_number.Goals as goal

pub returns-clause-first : goal.returns-clause-first
returns-clause-first c =
    let first = c.in-Some.ensures in (
      omega (arith, first.fits),
      record {
        within = omega (arith, first.count.1, c.if-bytes-lt8.false);
        feed = omega (arith, c.if-bytes-len-ne10.false);
        spelt = short_spelt c.args.bytes.now c.in-Ok.eight c.in-Some.len c.in-Some.value (search rules) first.count.0 first.count.1 (omega (arith, first.count.1, c.if-bytes-lt8.false)) (λ e. absurd (c.if-bytes-eq48.false e)) first.digits first.value (omega (arith, first.fits));
      },
    )

pub returns-clause-few : goal.returns-clause-few
returns-clause-few c = let first = c.in-Some.ensures in (omega (arith, first.count.0), omega (arith, first.count.1))

pub returns-then-bytes-lt8-clause-first : goal.returns-then-bytes-lt8-clause-first
returns-then-bytes-lt8-clause-first c = tt

pub returns-then-bytes-lt8-clause-few : goal.returns-then-bytes-lt8-clause-few
returns-then-bytes-lt8-clause-few c = tt

pub returns-in_default-clause-first : goal.returns-in_default-clause-first
returns-in_default-clause-first c = tt

pub returns-in_default-clause-few : goal.returns-in_default-clause-few
returns-in_default-clause-few c = tt

pub returns-in_default-leading_digits-clause-first : goal.returns-in_default-leading_digits-clause-first
returns-in_default-leading_digits-clause-first c = tt

pub returns-in_default-leading_digits-clause-few : goal.returns-in_default-leading_digits-clause-few
returns-in_default-leading_digits-clause-few c = tt

pub returns-then-bytes-len-ne10-clause-first : goal.returns-then-bytes-len-ne10-clause-first
returns-then-bytes-len-ne10-clause-first c = tt

pub returns-then-bytes-len-ne10-clause-few : goal.returns-then-bytes-len-ne10-clause-few
returns-then-bytes-len-ne10-clause-few c = tt

pub returns-then-bytes-eq48-clause-first : goal.returns-then-bytes-eq48-clause-first
returns-then-bytes-eq48-clause-first c = tt

pub returns-then-bytes-eq48-clause-few : goal.returns-then-bytes-eq48-clause-few
returns-then-bytes-eq48-clause-few c = tt
