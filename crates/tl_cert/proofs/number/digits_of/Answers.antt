use Rattle.std.proofs.Common.{◌+◌, ◌*◌, drop, get_or, refl, sym, ap, ◌∙◌, arith}
use Rattle.std.specs.Str.Parse.{digits_value_after}
use Rattle.tl_cert.proofs.NumberLemmas.{decimal_may, decimal_digits, digit_read, digit_kept, digit_gone, digit_below, value_grows, no_digit, value_is, digits_spell}
use Rattle.tl_cert.proofs.number.digits_of.Goals as goal

pub returns-then-not-may_spell : goal.returns-then-not-may_spell
returns-then-not-may_spell c = λ n below is. cc (c.if-not-may_spell.ensures.1 (decimal_may n c.args.bytes.now (omega (arith, below, c.requires)) is))

pub returns-then-not-is_ascii_digit : goal.returns-then-not-is_ascii_digit
returns-then-not-is_ascii_digit c = λ n below is.
    let all = decimal_digits n c.args.bytes.now (omega (arith, below, c.requires)) is in
    no_digit c.args.bytes.now c.loop-index.index c.loop-index-test.true (sym c.if-not-is_ascii_digit.ensures.value) (c.loop-index.invariant.onward all)

pub returns-then-value-limit : goal.returns-then-value-limit
returns-then-value-limit c = λ n below is.
    let same = value_is c.args.bytes.now c.loop-index.value c.loop-index.index n c.loop-index-test.false c.loop-index.invariant.worth (omega (arith, below, c.requires)) is in
    omega (arith, same, below)

pub returns : goal.returns
returns c = (
  digits_spell c.args.bytes.now c.loop-index.value c.loop-index.index (c.if-not-may_spell.ensures.0 refl) c.loop-index-test.false
      c.loop-index.invariant.worth c.loop-index.invariant.back (omega (arith, c.requires)),
  c.if-value-limit.false,
)

pub loop-index-preserved : goal.loop-index-preserved
loop-index-preserved c =
    let bytes = c.args.bytes.now in
    let index = c.loop-index.index in
    let value = c.loop-index.value in
    let so_far = c.loop-index.invariant in
    let digit = sym c.if-not-is_ascii_digit.ensures.value in
    record {
      worth = ap (λ d. digits_value_after 10 (value * 10 + d) (drop (index + 1) bytes)) c.from.ensures
          ∙ digit_read bytes index value c.loop-index-test.true digit ∙ so_far.worth;
      back = λ all. so_far.back (digit_kept bytes index c.loop-index-test.true digit all);
      onward = λ all. digit_gone bytes index c.loop-index-test.true (so_far.onward all);
      small = value_grows index value c.from.result so_far.small (omega (arith, c.from.ensures, digit_below (get_or bytes index 0) digit));
    }
