-- Digits and the numbers that they spell.
use Rattle.std.proofs.Common.{◌≡◌, ℕ, ℤ, pos, negsuc, FitsSigned, w32, zero, suc, ◌+◌, ◌-◌, ◌*◌, ◌^◌, ◌<◌, ◌≤◌, true, false, List, ◌∷◌, length, take, drop, take_all, get_or, refl, sym, ap, subst, ◌∙◌, arith, decimal}
use Rattle.std.specs.Char.{is_ascii_digit, digit_value}
use Rattle.std.specs.Int.{IsInRange}
use Rattle.std.specs.Fmt.{signed_decimal}
use Rattle.std.specs.Str.Parse.{AllDigits, digits_value, digits_value_after}
use Rattle.std.proofs.lemmas.Str.Parse.{IsNumeralModel, digit_from_value, digit_at}
use Rattle.std.proofs.lemmas.Str.{digit_value_digit}
use Rattle.std.proofs.lemmas.Fmt.{decimal-digits_value, decimal_is_IsNumeral, decimal_nonempty, length-decimal-le, first_decimal, decimal_digit, decimal_injective}
use Rattle.std.proofs.lemmas.List.{drop_more, drop_all}
use Rattle.std.proofs.Math.Nat.{pow-le-pow_right, pow-suc}
use Rattle.tl_cert.specs.Keeping.Words.{MaySpell}

own : IsNumeralModel (AllDigits 10) (digits_value 10)
own = record { to = λ ds all. all; from = λ ds all. all; same = λ ds all. refl }

lead_of_decimal : (n : ℕ) → n < 10 ^ 10 → get_or (decimal n) 0 0 ≡ 48 → length (decimal n) ≡ 1
lead_of_decimal zero small is = ap length (decimal_digit 0 (omega arith))
lead_of_decimal (suc n) small is = absurd (let k = first_decimal (suc n) (omega arith) (omega arith) in omega (arith, is, k))

-- a number's digits are such bytes
pub decimal_may : (n : ℕ) (bytes : List ℕ) → n < 10 ^ 10 → bytes ≡ decimal n → MaySpell bytes
decimal_may n bytes small is = rw is record {
  some = decimal_nonempty n (omega arith);
  few = length-decimal-le 10 n (omega arith) small (omega arith);
  lead = lead_of_decimal n small;
}

-- all of them are digits
pub decimal_digits : (n : ℕ) (bytes : List ℕ) → n < 10 ^ 10 → bytes ≡ decimal n → AllDigits 10 bytes
decimal_digits n bytes small is = rw is (decimal_is_IsNumeral n (omega arith)).0.1

-- a digit more is read
pub digit_read : (bytes : List ℕ) (index value : ℕ) → index < length bytes → is_ascii_digit (get_or bytes index 0) ≡ true
    → digits_value_after 10 (value * 10 + (get_or bytes index 0 - 48)) (drop (index + 1) bytes) ≡ digits_value_after 10 value (drop index bytes)
digit_read bytes index value below is =
    let digit : IsInRange 48 57 (get_or bytes index 0) = grind arith in
    let worth = digit_value_digit (get_or bytes index 0) digit in
    ap (λ d. digits_value_after 10 (value * 10 + d) (drop (index + 1) bytes)) (omega (arith, worth))
    ∙ sym (ap (digits_value_after 10 value) (drop_more bytes index 0 below))

pub digit_kept : (bytes : List ℕ) (index : ℕ) → index < length bytes → is_ascii_digit (get_or bytes index 0) ≡ true
    → AllDigits 10 (drop (index + 1) bytes) → AllDigits 10 (drop index bytes)
digit_kept bytes index below is all =
    let digit : IsInRange 48 57 (get_or bytes index 0) = grind arith in
    let worth = digit_value_digit (get_or bytes index 0) digit in
    rw (drop_more bytes index 0 below) (omega (arith, worth, digit), all)

pub digit_gone : (bytes : List ℕ) (index : ℕ) → index < length bytes → AllDigits 10 (drop index bytes) → AllDigits 10 (drop (index + 1) bytes)
digit_gone bytes index below all = (subst (AllDigits 10) (drop_more bytes index 0 below) all).1

pub digit_below : (byte : ℕ) → is_ascii_digit byte ≡ true → byte - 48 < 10
digit_below byte is = let digit : IsInRange 48 57 byte = grind arith in omega (arith, digit)

-- a digit is not below that of 0
pub digit_above : (byte : ℕ) → is_ascii_digit byte ≡ true → 48 ≤ byte
digit_above byte is = let digit : IsInRange 48 57 byte = grind arith in omega (arith, digit)

-- another byte is no digit
pub no_digit : (bytes : List ℕ) (index : ℕ) → index < length bytes → is_ascii_digit (get_or bytes index 0) ≡ false → AllDigits 10 (drop index bytes) → ⊥
no_digit bytes index below is all =
    let first : digit_value (get_or bytes index 0) < 10 = (subst (AllDigits 10) (drop_more bytes index 0 below) all).0 in
    let digit = digit_from_value (get_or bytes index 0) first in
    grind (arith, digit)

-- the value stays small
pub value_grows : (index value digit : ℕ) → value < 10 ^ index → digit < 10 → value * 10 + digit < 10 ^ (index + 1)
value_grows index value digit small below = let next : 10 ^ (index + 1) ≡ 10 ^ index * 10 = ap (λ n. 10 ^ n) (omega arith) ∙ pow-suc 10 index in omega (arith, next, small, below)

pub value_small : (index value : ℕ) → index ≤ 10 → value < 10 ^ index → value < 10 ^ 10
value_small index value few small = let most = pow-le-pow_right {n = 10} (omega arith) few in omega (arith, small, most)

-- the bytes are the number's digits
pub digits_spell : (bytes : List ℕ) (value index : ℕ) → MaySpell bytes → length bytes ≤ index
    → digits_value_after 10 value (drop index bytes) ≡ digits_value 10 bytes → (AllDigits 10 (drop index bytes) → AllDigits 10 bytes)
    → value < 10 ^ 10 → bytes ≡ decimal value
digits_spell bytes value index may over is back small =
    let none = drop_all index bytes over in
    let worth : value ≡ digits_value 10 bytes = sym (ap (digits_value_after 10 value) none) ∙ is in
    let all : AllDigits 10 bytes = back (subst (AllDigits 10) (sym none) tt) in
    sym (ap decimal worth ∙ decimal-digits_value own bytes all may.some may.lead (omega (arith, worth, small)))

-- read to the end, the value is the number whose digits the bytes are
pub value_is : (bytes : List ℕ) (value index n : ℕ) → length bytes ≤ index → digits_value_after 10 value (drop index bytes) ≡ digits_value 10 bytes
    → n < 10 ^ 10 → bytes ≡ decimal n → value ≡ n
value_is bytes value index n over is small spelt =
    sym (ap (digits_value_after 10 value) (drop_all index bytes over)) ∙ is ∙ ap (digits_value 10) spelt ∙ (decimal_is_IsNumeral n (omega arith)).1

-- a minus is no number's first byte
no_minus : (n : ℕ) (bytes : List ℕ) → n < 2 ^ 64 → bytes ≡ decimal n → get_or bytes 0 0 ≡ 45 → ⊥
no_minus n bytes small is minus =
    let all : AllDigits 10 bytes = rw is (decimal_is_IsNumeral n small).0.1 in
    let some : 0 < length bytes = rw is (decimal_nonempty n small) in
    let digit = digit_at bytes 0 all some in
    grind (arith, digit, minus)

-- behind a minus
behind : (n : ℕ) (bytes : List ℕ) → bytes ≡ 45 ∷ decimal n → take (length bytes - 1) (drop 1 bytes) ≡ decimal n
behind n bytes is = rw is (take_all (length (45 ∷ decimal n) - 1) (decimal n) (omega arith))

-- where the bytes behind a minus spell no number up to the farthest, no coordinate is spelt; nor where they spell 0
pub no_coordinate : (bytes : List ℕ) → get_or bytes 0 0 ≡ 45 → ((n : ℕ) → 0 < n → n < 2147483649 → take (length bytes - 1) (drop 1 bytes) ≡ decimal n → ⊥)
    → (z : ℤ) → FitsSigned w32 z → bytes ≡ signed_decimal z → ⊥
no_coordinate bytes minus none (pos n) fits is = no_minus n bytes (omega (arith, fits.sfits)) is minus
no_coordinate bytes minus none (negsuc n) fits is = none (suc n) (omega arith) (omega (arith, fits.sfits)) (behind (suc n) bytes is)

pub not_zero : (bytes : List ℕ) (value n : ℕ) → value ≡ 0 → bytes ≡ decimal value → 0 < n → n < 2147483649 → bytes ≡ decimal n → ⊥
not_zero bytes value n zeroed is some small same =
    let e = decimal_injective value n (omega (arith, zeroed)) (omega arith) (sym is ∙ same) in
    omega (arith, e, zeroed, some)
