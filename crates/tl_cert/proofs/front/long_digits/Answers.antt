use Rattle.std.proofs.Common.{rules, ◌≡◌, take, get_or, sym, arith}
use Rattle.tl_cert.proofs.NumberLemmas.{digit_below, digit_above}
use Rattle.tl_cert.proofs.FrontLemmas.{nine_digits, eight_digits}
use Rattle.tl_cert.proofs.front.long_digits.Goals as goal

pub returns : goal.returns
returns c =
    let bytes = c.args.bytes.now in
    let first = c.in-Some.ensures in
    let eight : c.in-Ok.eight ≡ take 8 bytes = search rules in
    let digit = sym c.if-not-is_ascii_digit.ensures.value in
    record {
      digits = (
        nine_digits bytes c.in-Ok.eight c.in-Some.value c.from.result c.requires eight first.digits first.value digit c.from.ensures,
        omega (arith, first.fits, c.from.ensures, digit_below (get_or bytes 8 0) digit),
        omega arith,
      );
      few = omega arith;
    }

pub returns-in_default-clause-digits : goal.returns-in_default-clause-digits
returns-in_default-clause-digits c = tt

pub returns-in_default-clause-few : goal.returns-in_default-clause-few
returns-in_default-clause-few c = tt

pub returns-in_default-eight_digits-clause-digits : goal.returns-in_default-eight_digits-clause-digits
returns-in_default-eight_digits-clause-digits c = tt

pub returns-in_default-eight_digits-clause-few : goal.returns-in_default-eight_digits-clause-few
returns-in_default-eight_digits-clause-few c = tt

pub returns-then-bytes-eq32-clause-digits : goal.returns-then-bytes-eq32-clause-digits
returns-then-bytes-eq32-clause-digits c =
    let eight : c.in-Ok.eight ≡ take 8 c.args.bytes.now = search rules in
    let first = c.in-Some.ensures in
    (eight_digits c.args.bytes.now c.in-Ok.eight c.in-Some.value c.requires eight first.digits first.value, omega (arith, first.fits), omega arith)

pub returns-then-bytes-eq32-clause-few : goal.returns-then-bytes-eq32-clause-few
returns-then-bytes-eq32-clause-few c = omega arith

pub returns-then-not-is_ascii_digit-clause-digits : goal.returns-then-not-is_ascii_digit-clause-digits
returns-then-not-is_ascii_digit-clause-digits c =
    let eight : c.in-Ok.eight ≡ take 8 c.args.bytes.now = search rules in
    let first = c.in-Some.ensures in
    (eight_digits c.args.bytes.now c.in-Ok.eight c.in-Some.value c.requires eight first.digits first.value, omega (arith, first.fits), omega arith)

pub returns-then-not-is_ascii_digit-clause-few : goal.returns-then-not-is_ascii_digit-clause-few
returns-then-not-is_ascii_digit-clause-few c = omega arith

pub overflow_sub-bytes : goal.overflow_sub-bytes
overflow_sub-bytes c = let digit = sym c.if-not-is_ascii_digit.ensures.value in digit_above (get_or c.args.bytes.now 8 0) digit
