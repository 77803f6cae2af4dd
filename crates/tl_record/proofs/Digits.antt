-- The value of digits, as a loop adds one after the other.
use Rattle.std.proofs.Common.{◌≡◌, ℕ, Option, Some, None, IfSome, drop, sym, ◌+◌, ◌-◌, ◌*◌, ◌^◌, ◌<◌, ◌≤◌, true, List, [], ◌∷◌, ◌++◌, length, take, get_or, refl, ap, ◌∙◌, add-one, arith, length-append}
use Rattle.std.proofs.lemmas.List.{take_more, take_all}
use Rattle.std.proofs.Math.Nat.{pow-succ', pow-le-pow_right}
use Rattle.std.specs.List.{list_all}
use Rattle.std.specs.Char.{is_ascii_digit}
use Rattle.std.proofs.lemmas.List.Folds.{list_all_more}
use Rattle.std.specs.Array.{IsWholeChunk}
use Rattle.tl_record.specs.Fields.{decimal}

-- one more digit at the end makes the others count ten times as much
pub decimal-push : (digits : List ℕ) (digit : ℕ) → decimal (digits ++ digit ∷ []) ≡ decimal digits * 10 + (digit - 48)
decimal-push [] digit = omega arith
decimal-push (first ∷ digits) digit =
    let power : 10 ^ length (digits ++ digit ∷ []) ≡ 10 * 10 ^ length digits =
    ap (λ n. 10 ^ n) (length-append digits (digit ∷ []) ∙ add-one (length digits)) ∙ pow-succ' 10 (length digits) in
    rw (power, decimal-push digits digit) (omega arith)

-- ten to a higher power
pub power_below : (i : ℕ) → i < 18 → 10 ^ (i + 1) ≤ 10 ^ 18
power_below i below = let le : i + 1 ≤ 18 = omega arith in pow-le-pow_right (omega arith) le

-- a number of i digits and one more digit
pub next_below : (value digit i : ℕ) → value < 10 ^ i → digit ≤ 9 → value * 10 + digit < 10 ^ (i + 1)
next_below value digit i below small =
    let power : 10 ^ (i + 1) ≡ 10 * 10 ^ i = ap (λ n. 10 ^ n) (add-one i) ∙ pow-succ' 10 i in
    rw power (omega arith)

pub decimal_more : (bytes : List ℕ) (i : ℕ) → i < length bytes → decimal (take (i + 1) bytes) ≡ decimal (take i bytes) * 10 + (get_or bytes i 0 - 48)
decimal_more bytes i below = ap decimal (take_more bytes i 0 below) ∙ decimal-push (take i bytes) (get_or bytes i 0)

pub all_digits_more : (bytes : List ℕ) (i : ℕ) → i < length bytes → list_all is_ascii_digit (take i bytes) ≡ true → is_ascii_digit (get_or bytes i 0) ≡ true
    → list_all is_ascii_digit (take (i + 1) bytes) ≡ true
all_digits_more bytes i below all here = list_all_more is_ascii_digit bytes i 0 below ∙ rw (all, here) refl

-- ---- one digit before eight others

nine_digits_cons : (first : ℕ) (rest eight : List ℕ) (n : ℕ) → IsWholeChunk (take (length (first ∷ rest) - 1) rest) eight n → is_ascii_digit first ≡ true → list_all is_ascii_digit eight ≡ true →
    list_all is_ascii_digit (first ∷ rest) ≡ true
nine_digits_cons first rest eight n whole here all =
    let same : eight ≡ rest = whole.same ∙ take_all (length (first ∷ rest) - 1) rest (omega arith) in
    rw (here, sym same, all) refl

pub nine_digits : (bytes eight : List ℕ) (n : ℕ) → IsWholeChunk (take (length bytes - 1) (drop 1 bytes)) eight n → 1 ≤ length bytes → is_ascii_digit (get_or bytes 0 0) ≡ true →
    list_all is_ascii_digit eight ≡ true → list_all is_ascii_digit bytes ≡ true
nine_digits [] eight n whole some here all = absurd (omega arith)
nine_digits (first ∷ rest) eight n whole some here all = nine_digits_cons first rest eight n whole here all

pub nine_value : (bytes eight : List ℕ) (low : ℕ) → IsWholeChunk (take (length bytes - 1) (drop 1 bytes)) eight 8 → 1 ≤ length bytes → low ≡ decimal eight →
    (get_or bytes 0 0 - 48) * 100000000 + low ≡ decimal bytes
nine_value [] eight low whole some e = absurd (omega arith)
nine_value (first ∷ rest) eight low whole some e =
    let same : eight ≡ rest = whole.same ∙ take_all (length (first ∷ rest) - 1) rest (omega arith) in
    let long : length rest ≡ 8 = ap length (sym same ∙ whole.same) ∙ whole.long in
    let high : (first - 48) * 100000000 ≡ (first - 48) * 10 ^ length rest = ap (λ n. (first - 48) * 10 ^ n) (sym long) in
    let others : low ≡ decimal rest = e ∙ ap decimal same in
    ap (λ n. n + low) high ∙ ap (λ n. (first - 48) * 10 ^ length rest + n) others

pub nine_below : (first low : ℕ) → first ≤ 57 → low < 100000000 → (first - 48) * 100000000 + low < 1000000000
nine_below first low h k = omega arith

pub nine_fits : (first low : ℕ) → first ≤ 57 → low < 100000000 → (first - 48) * 100000000 + low < 2 ^ 64
nine_fits first low h k = omega arith

-- ---- what holds of a value that may be there

pub some_any : {P : Type 0} (o : Option ℕ) → P → IfSome o (λ _. P)
some_any (Some value) h = h
some_any None h = tt

pub some_less : (o : Option ℕ) → IfSome o (λ value. value < 100000000) → IfSome o (λ value. value < 1000000000)
some_less (Some value) h = omega arith
some_less None h = tt
