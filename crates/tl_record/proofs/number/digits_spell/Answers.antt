use Rattle.std.proofs.Common.{◌≡◌, ◌≤◌, ◌<◌, ◌+◌, ◌*◌, ◌^◌, ◌-◌, ◌==◌, ℕ, List, [], ◌∷◌, true, false, length, take, take_all, get_or, arith, rules, sym, ◌∙◌, ap}
use Rattle.std.specs.Char.{is_ascii_digit}
use Rattle.std.specs.List.{list_all}
use Rattle.tl_record.specs.Fields.{decimal, digits_spell}
use Rattle.tl_record.specs.declared.number.Spelt.TheVariants.{Value}
use Rattle.std.proofs.Math.Nat.{pow-le-pow_right}
use Rattle.tl_record.proofs.Digits.{power_below, next_below, decimal_more, all_digits_more}
use Rattle.tl_record.proofs.number.digits_spell.Goals as goal

spells : (bytes : List ℕ) (value : ℕ) → 0 < length bytes → list_all is_ascii_digit bytes ≡ true → value ≡ decimal bytes → Value value ≡ digits_spell bytes
spells [] value some all is = absurd (omega arith)
spells (byte ∷ bytes) value some all is = rw all (ap Value is)

spells_some : (bytes : List ℕ) (value : ℕ) → (length bytes == 0) ≡ false → list_all is_ascii_digit bytes ≡ true → value ≡ decimal bytes → Value value ≡ digits_spell bytes
spells_some [] value some all is = cc
spells_some (byte ∷ bytes) value some all is = rw all (ap Value is)

pub overflow_mul-value : goal.overflow_mul-value
overflow_mul-value c =
    let index : c.loop-byte.byte-index < 18 = omega arith in
    let next : c.loop-byte.value * 10 + 0 < 10 ^ (c.loop-byte.byte-index + 1) = next_below c.loop-byte.value 0 c.loop-byte.byte-index c.loop-byte.invariant.below (omega arith) in
    let most = power_below c.loop-byte.byte-index index in
    omega (arith, most)

pub overflow_add-value : goal.overflow_add-value
overflow_add-value c =
    let index : c.loop-byte.byte-index < 18 = omega arith in
    let digit : get_or c.args.bytes.now c.loop-byte.byte-index 0 - 48 ≤ 9 = search rules in
    let next = next_below c.loop-byte.value (get_or c.args.bytes.now c.loop-byte.byte-index 0 - 48) c.loop-byte.byte-index c.loop-byte.invariant.below digit in
    let most = power_below c.loop-byte.byte-index index in
    omega (arith, most, next)

pub loop-byte-preserved : goal.loop-byte-preserved
loop-byte-preserved c =
    let digit : get_or c.args.bytes.now c.loop-byte.byte-index 0 - 48 ≤ 9 = search rules in
    let is : is_ascii_digit (get_or c.args.bytes.now c.loop-byte.byte-index 0) ≡ true = sym c.is_ascii_digit.ensures.value ∙ c.if-not-is_ascii_digit.false in
    record {
      digits = all_digits_more c.args.bytes.now c.loop-byte.byte-index c.loop-byte-test.true c.loop-byte.invariant.digits is;
      value = ap (λ n. n * 10 + (get_or c.args.bytes.now c.loop-byte.byte-index 0 - 48)) c.loop-byte.invariant.value ∙ sym (decimal_more c.args.bytes.now c.loop-byte.byte-index c.loop-byte-test.true);
      below = next_below c.loop-byte.value (get_or c.args.bytes.now c.loop-byte.byte-index 0 - 48) c.loop-byte.byte-index c.loop-byte.invariant.below digit;
    }

pub returns-clause-fits : goal.returns-clause-fits
returns-clause-fits c =
    let within : c.loop-byte.byte-index ≤ 18 = omega arith in
    let most : 10 ^ c.loop-byte.byte-index ≤ 10 ^ 18 = pow-le-pow_right (omega arith) within in
    omega (arith, most, c.loop-byte.invariant.below)

pub returns-in-Some-clause-value : goal.returns-in-Some-clause-value
returns-in-Some-clause-value c =
    let told = c.in-Some.ensures in
    spells c.args.bytes.now c.in-Some.value told.some told.digits told.value

pub returns-in-Some-clause-fits : goal.returns-in-Some-clause-fits
returns-in-Some-clause-fits c = omega (arith, c.in-Some.ensures.fits)

pub returns-clause-value : goal.returns-clause-value
returns-clause-value c =
    let bytes = c.args.bytes.now in
    let whole : take c.loop-byte.byte-index bytes ≡ bytes = take_all c.loop-byte.byte-index bytes c.loop-byte-test.false in
    spells_some bytes c.loop-byte.value (sym c.if-is_empty.ensures) (ap (list_all is_ascii_digit) (sym whole) ∙ c.loop-byte.invariant.digits) (c.loop-byte.invariant.value ∙ ap decimal whole)
