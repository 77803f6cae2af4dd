-- A field that is filled: a sign and digits, and no blank.
use Rattle.std.proofs.Common.{◌≡◌, ℕ, pos, ◌-ℤ◌, ◌+◌, ◌-◌, ◌*◌, ◌^◌, ◌<◌, ◌≤◌, true, false, ◌&&◌, Bool, List, [], ◌∷◌, ◌++◌, length, take, drop, get_or, take_all, take-add, length-append, length-drop, refl, sym, ap, ◌∙◌, arith}
use Rattle.std.proofs.lemmas.List.{length-take-le, drop-drop, drop_more, take-take}
use Rattle.std.proofs.lemmas.List.Folds.{list_all-append}
use Rattle.std.proofs.lemmas.Nat.{pow-add}
use Rattle.std.specs.List.{list_all}
use Rattle.std.specs.Char.{is_ascii_digit}
use Rattle.std.proofs.Common.{Option, Some, None, IfSome}
use Rattle.tl_record.specs.Fields.{is_blank, without_trailing_blanks, trimmed, digits_spell, decimal, negated, not_negated, signed_spells, unsigned_spells, number_spelt, coordinate_spelt}
use Rattle.tl_record.specs.declared.number.Spelt.TheVariants.{Value}
use Rattle.std.proofs.lemmas.Bool.{and_parts as both_parts}

no_blank : (byte : ℕ) → is_ascii_digit byte ≡ true → is_blank byte ≡ false
no_blank byte is = grind arith

digits_stay : (digits : List ℕ) → list_all is_ascii_digit digits ≡ true → without_trailing_blanks digits ≡ digits
digits_stay [] all = refl
digits_stay (byte ∷ digits) all =
    let parts = both_parts (is_ascii_digit byte) (list_all is_ascii_digit digits) all in
    rw (no_blank byte parts.0, digits_stay digits parts.1) refl

-- nothing is left out of it
pub trimmed-filled : (sign : ℕ) (digits : List ℕ) → is_blank sign ≡ false → list_all is_ascii_digit digits ≡ true → trimmed (sign ∷ digits) ≡ sign ∷ digits
trimmed-filled sign digits is all = rw (is, is, digits_stay digits all) refl

-- digits spell their value
pub digits_spell-digits : (digits : List ℕ) → 0 < length digits → list_all is_ascii_digit digits ≡ true → digits_spell digits ≡ Value (decimal digits)
digits_spell-digits [] some all = absurd (omega arith)
digits_spell-digits (byte ∷ digits) some all = rw all refl

-- what a field spells whose first byte is a sign, and all others digits
abbrev pub digits_of : List ℕ → List ℕ
digits_of bytes = take (length bytes - 1) (drop 1 bytes)

filled_is : (bytes : List ℕ) → 1 ≤ length bytes → bytes ≡ get_or bytes 0 0 ∷ digits_of bytes
filled_is [] some = absurd (omega arith)
filled_is (byte ∷ bytes) some = ap (λ (l : List ℕ). byte ∷ l) (sym (take_all (length (byte ∷ bytes) - 1) bytes (omega arith)))

pub minus_spelt : (bytes : List ℕ) (value : ℕ) → 1 ≤ length bytes → get_or bytes 0 0 ≡ 45 → list_all is_ascii_digit (digits_of bytes) ≡ true
    → 0 < length (digits_of bytes) → value ≡ decimal (digits_of bytes) → coordinate_spelt bytes ≡ Value (pos 0 -ℤ pos value)
minus_spelt bytes value some sign all digits is =
    let split : bytes ≡ 45 ∷ digits_of bytes = filled_is bytes some ∙ ap (λ n. n ∷ digits_of bytes) sign in
    ap coordinate_spelt split ∙ ap signed_spells (trimmed-filled 45 (digits_of bytes) refl all) ∙ ap negated (digits_spell-digits (digits_of bytes) digits all)
    ∙ ap (λ n. Value (pos 0 -ℤ pos n)) (sym is)

pub plus_spelt : (bytes : List ℕ) (value : ℕ) → 1 ≤ length bytes → get_or bytes 0 0 ≡ 43 → list_all is_ascii_digit (digits_of bytes) ≡ true
    → 0 < length (digits_of bytes) → value ≡ decimal (digits_of bytes) → coordinate_spelt bytes ≡ Value (pos value)
plus_spelt bytes value some sign all digits is =
    let split : bytes ≡ 43 ∷ digits_of bytes = filled_is bytes some ∙ ap (λ n. n ∷ digits_of bytes) sign in
    ap coordinate_spelt split ∙ ap signed_spells (trimmed-filled 43 (digits_of bytes) refl all) ∙ ap not_negated (digits_spell-digits (digits_of bytes) digits all)
    ∙ ap (λ n. Value (pos n)) (sym is)

-- ---- digits behind blanks

behind_blanks : (blanks digits : List ℕ) → list_all is_blank blanks ≡ true → trimmed (blanks ++ digits) ≡ trimmed digits
behind_blanks [] digits all = refl
behind_blanks (byte ∷ blanks) digits all =
    let parts = both_parts (is_blank byte) (list_all is_blank blanks) all in rw parts.0 (behind_blanks blanks digits parts.1)

digits_spelt : (digits : List ℕ) (value : ℕ) → list_all is_ascii_digit digits ≡ true → 0 < length digits → value ≡ decimal digits → number_spelt digits ≡ Value value
digits_spelt [] value all some is = absurd (omega arith)
digits_spelt (byte ∷ digits) value all some is =
    let parts = both_parts (is_ascii_digit byte) (list_all is_ascii_digit digits) all in
    ap unsigned_spells (trimmed-filled byte digits (no_blank byte parts.0) parts.1) ∙ digits_spell-digits (byte ∷ digits) some all ∙ ap (λ n. Value n) (sym is)

-- so many blanks, and so many digits behind them
pub aligned_spelt : (bytes : List ℕ) (blanks count value : ℕ) → list_all is_blank (take blanks bytes) ≡ true → list_all is_ascii_digit (take count (drop blanks bytes)) ≡ true
    → 0 < count → blanks + count ≤ length bytes → value ≡ decimal (take count (drop blanks bytes)) → number_spelt (take (blanks + count) bytes) ≡ Value value
aligned_spelt bytes blanks count value blank all some within is =
    let digits = take count (drop blanks bytes) in
    let long : 0 < length digits = omega (arith, length-take-le count (drop blanks bytes) (omega (arith, length-drop blanks bytes))) in
    ap number_spelt (take-add blanks count bytes) ∙ ap unsigned_spells (behind_blanks (take blanks bytes) digits blank) ∙ digits_spelt digits value all long is

-- ---- digits in two parts

decimal-append : (high low : List ℕ) → decimal (high ++ low) ≡ decimal high * 10 ^ length low + decimal low
decimal-append [] low = omega arith
decimal-append (digit ∷ high) low =
    let rest = decimal-append high low in
    let power : 10 ^ length (high ++ low) ≡ 10 ^ length high * 10 ^ length low = ap (λ n. 10 ^ n) (length-append high low) ∙ pow-add 10 (length high) (length low) in
    rw (power, rest) (omega arith)

both_true : (a b : Bool) → a ≡ true → b ≡ true → (a && b) ≡ true
both_true a b p q = rw (p, q) refl

abbrev pub part : List ℕ → ℕ → ℕ → List ℕ
part bytes at count = take count (drop at bytes)

in_parts : (bytes : List ℕ) (at high : ℕ) → part bytes at (high + 8) ≡ part bytes at high ++ part bytes (at + high) 8
in_parts bytes at high = take-add high 8 (drop at bytes) ∙ ap (λ (l : List ℕ). take high (drop at bytes) ++ take 8 l) (drop-drop high at bytes)

pub parts_digits : (bytes : List ℕ) (at high : ℕ) → list_all is_ascii_digit (part bytes at high) ≡ true → list_all is_ascii_digit (part bytes (at + high) 8) ≡ true
    → list_all is_ascii_digit (part bytes at (high + 8)) ≡ true
parts_digits bytes at high first second =
    ap (list_all is_ascii_digit) (in_parts bytes at high) ∙ list_all-append is_ascii_digit (part bytes at high) (part bytes (at + high) 8) ∙ both_true _ _ first second

pub parts_value : (bytes : List ℕ) (at high first second : ℕ) → at + high + 8 ≤ length bytes → first ≡ decimal (part bytes at high) → second ≡ decimal (part bytes (at + high) 8)
    → first * 100000000 + second ≡ decimal (part bytes at (high + 8))
parts_value bytes at high first second within is also =
    let eight : length (part bytes (at + high) 8) ≡ 8 = length-take-le 8 (drop (at + high) bytes) (omega (arith, length-drop (at + high) bytes)) in
    let whole : decimal (part bytes at (high + 8)) ≡ decimal (part bytes at high) * 10 ^ length (part bytes (at + high) 8) + decimal (part bytes (at + high) 8) =
    ap decimal (in_parts bytes at high) ∙ decimal-append (part bytes at high) (part bytes (at + high) 8) in
    sym (whole ∙ ap (λ n. decimal (part bytes at high) * 10 ^ n + decimal (part bytes (at + high) 8)) eight ∙ rw (← is, ← also) refl)

pub aligned_is : (bytes : List ℕ) (blanks width : ℕ) (found : Option ℕ) → list_all is_blank (take blanks bytes) ≡ true → blanks < width
    → IfSome found (λ _. list_all is_ascii_digit (part bytes blanks (width - blanks)) ≡ true) → IfSome found (λ _. blanks + (width - blanks) ≤ length bytes)
    → IfSome found (λ value. value ≡ decimal (part bytes blanks (width - blanks))) → IfSome found (λ value. number_spelt (take width bytes) ≡ Value value)
aligned_is bytes blanks width None blank some all within is = tt
aligned_is bytes blanks width (Some value) blank some all within is =
    let whole : width ≡ blanks + (width - blanks) = omega arith in
    ap (λ n. number_spelt (take n bytes)) whole ∙ aligned_spelt bytes blanks (width - blanks) value blank all (omega arith) within is

-- the first bytes of a word that stands among others
pub word_part : (bytes word : List ℕ) (at count n : ℕ) → word ≡ take n (drop at bytes) → count ≤ n → take count word ≡ part bytes at count
word_part bytes word at count n same few = ap (take count) same ∙ take-take count n (drop at bytes) few

-- nine bytes: the first, and a word of the others
pub nine_parts : (bytes : List ℕ) (at count low : ℕ) → count ≡ 9 → at + 9 ≤ length bytes → low ≡ decimal (part bytes (at + 1) 8)
    → (get_or bytes at 0 - 48) * 100000000 + low ≡ decimal (part bytes at count)
nine_parts bytes at count low nine within is =
    let one : part bytes at 1 ≡ get_or bytes at 0 ∷ [] = ap (take 1) (drop_more bytes at 0 (omega arith)) in
    let value : get_or bytes at 0 - 48 ≡ decimal (part bytes at 1) = rw one (omega arith) in
    parts_value bytes at 1 (get_or bytes at 0 - 48) low (omega arith) value is ∙ ap (λ n. decimal (part bytes at n)) (sym nine)
