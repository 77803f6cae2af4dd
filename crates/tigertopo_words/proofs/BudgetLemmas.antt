-- Texts that spell a number, and what `parse` reads of them.
use Rattle.std.proofs.Common.{◌≡◌, ◌≢◌, ℕ, zero, suc, ◌<◌, ◌≤◌, ◌^◌, List, length, get_or, refl, sym, ap, subst, ◌∙◌, arith, decimal, Result, Ok, Err}
use Rattle.std.specs.Str.Parse.{ParsesUnsigned, AllDigits, IsNumeral, digits_value}
use Rattle.std.proofs.lemmas.Str.Parse.{IsNumeralModel, digit_at, without_leading_plus_none}
use Rattle.std.proofs.lemmas.Fmt.{decimal-digits_value, decimal_is_IsNumeral, decimal_nonempty, first_decimal, decimal_digit, decimal_injective, parse-decimal}
use Rattle.tigertopo_words.specs.Arguments.{IsSpelt, SpellsWidth, greatest_width}
use Rattle.tigertopo_words.specs.Spelling.{MaySpell}

own : IsNumeralModel (AllDigits 10) (digits_value 10)
own = record { to = λ ds all. all; from = λ ds all. all; same = λ ds all. refl }

lead_of_decimal : (n : ℕ) → n < 2 ^ 64 → get_or (decimal n) 0 0 ≡ 48 → length (decimal n) ≡ 1
lead_of_decimal zero small is = ap length (decimal_digit 0 (omega arith))
lead_of_decimal (suc n) small is = absurd (let k = first_decimal (suc n) (omega arith) small in omega (arith, is, k))

no_plus : (n : ℕ) → n < 2 ^ 64 → get_or (decimal n) 0 0 ≢ 43
no_plus n small plus =
    let all : AllDigits 10 (decimal n) = (decimal_is_IsNumeral n small).0.1 in
    let digit = digit_at (decimal n) 0 all (decimal_nonempty n small) in
    grind (arith, digit, plus)

-- a number's digits may spell one
decimal_may : (n : ℕ) (bytes : List ℕ) → n < 2 ^ 64 → bytes ≡ decimal n → MaySpell bytes
decimal_may n bytes small is = rw is record { some = decimal_nonempty n small; sign = no_plus n small; lead = lead_of_decimal n small }

-- other bytes spell none
pub no_number : (bytes : List ℕ) → (MaySpell bytes → ⊥) → (n : ℕ) → IsSpelt bytes n → ⊥
no_number bytes other n is = other (decimal_may n bytes (omega (arith, is.1)) is.0)

-- what is read is the number
pub is_read : {E : Type 0} (bytes : List ℕ) (n : ℕ) (r : Result ℕ E) → MaySpell bytes → ParsesUnsigned 64 10 bytes r → r ≡ Ok n
    → IsSpelt bytes n
is_read bytes n r may parses is =
    let plain = without_leading_plus_none bytes may.sign in
    let both = subst (ParsesUnsigned 64 10 bytes) is parses in
    let numeral : IsNumeral 10 bytes = subst (IsNumeral 10) plain both.0.0 in
    let worth : digits_value 10 bytes ≡ n = sym (ap (digits_value 10) plain) ∙ sym both.1 in
    let small : digits_value 10 bytes < 2 ^ 64 = subst (λ ds. digits_value 10 ds < 2 ^ 64) plain both.0.1 in
    (sym (sym (ap decimal worth) ∙ decimal-digits_value own bytes numeral.1 may.some may.lead small), omega (arith, small, worth))

-- what can't be read is none
pub not_read : {E : Type 0} (bytes : List ℕ) (e : E) (r : Result ℕ E) → ParsesUnsigned 64 10 bytes r → r ≡ Err e
    → (n : ℕ) → IsSpelt bytes n → ⊥
not_read bytes e r parses is n spelt =
    cc (is, parse-decimal 64 n bytes r (omega (arith, spelt.1)) (omega (arith, spelt.1)) spelt.0 parses)

-- a text is one number
pub one_number : (text : List ℕ) (m n : ℕ) → IsSpelt text m → IsSpelt text n → m ≡ n
one_number text m n first second =
    decimal_injective m n (omega (arith, first.1)) (omega (arith, second.1)) (sym first.0 ∙ second.0)

-- a number past the widths spells none
pub no_width : (text : List ℕ) (n : ℕ) → IsSpelt text n → (1 ≤ n → n ≤ greatest_width → ⊥) → (width : ℕ) → SpellsWidth text width → ⊥
no_width text n is past width spelt =
    let same : n ≡ width = one_number text n width is spelt.is in
    let some = spelt.some in
    let most = spelt.most in
    past (omega (arith, same, some)) (omega (arith, same, most))
