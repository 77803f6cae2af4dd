-- A number's word, and what follows it, can be told from the bytes.
use Rattle.std.proofs.Common.{◌≡◌, ◌≢◌, ℕ, ℤ, pos, negsuc, suc, ◌<◌, ◌≤◌, ◌^◌, All, length, List, [], ◌∷◌, ◌++◌, refl, sym, ap, ◌∙◌, arith, ne_eqb}
use Rattle.std.proofs.Common.{decimal, FitsSigned, w32}
use Rattle.std.specs.Fmt.{signed_decimal}
use Rattle.std.specs.Str.Parse.{AllDigits}
use Rattle.std.proofs.lemmas.Str.Parse.{digit_from_value}
use Rattle.std.proofs.lemmas.Fmt.{decimal_is_IsNumeral, decimal_injective}
use Rattle.std.specs.Int.Signed.{mag}
use Rattle.std.proofs.lemmas.List.Elements.{All-nil, All-cons, All-head, All-tail, All-weaker}
use Rattle.tl_record.specs.Lines.{line_feeds}
use Rattle.tl_record.proofs.LineLemmas.{other_counts}
use Rattle.tl_cert.specs.Keeping.Words.{StartsWord}
use Rattle.tl_cert.specs.Text.{number, coordinate_text, numbered_line}

pub same_first : (byte other : ℕ) (x y : List ℕ) → byte ∷ x ≡ other ∷ y → byte ≡ other
same_first byte other x y same = cc

pub same_rest : (byte other : ℕ) (x y : List ℕ) → byte ∷ x ≡ other ∷ y → x ≡ y
same_rest byte other x y same = cc

-- what begins with a digit ends no word
no_end : (byte : ℕ) (y x : List ℕ) → 48 ≤ byte → StartsWord x → byte ∷ y ≡ x → ⊥
no_end byte y [] low h same = cc
no_end byte y (other ∷ x) low h same = omega (arith, same_first byte other y x same, h)

-- digits up to the end of a word
pub digits_only : (front others x y : List ℕ) → AllDigits 10 front → AllDigits 10 others → StartsWord x → StartsWord y
    → front ++ x ≡ others ++ y → (front ≡ others) × (x ≡ y)
digits_only [] [] x y d e h l same = (refl, same)
digits_only [] (byte ∷ others) x y d e h l same = absurd (no_end byte (others ++ y) x (digit_from_value byte e.0).0 h (sym same))
digits_only (byte ∷ front) [] x y d e h l same = absurd (no_end byte (front ++ x) y (digit_from_value byte d.0).0 l same)
digits_only (byte ∷ front) (other ∷ others) x y d e h l same =
    let rest = digits_only front others x y d.1 e.1 h l (same_rest byte other (front ++ x) (others ++ y) same) in
    let first = same_first byte other (front ++ x) (others ++ y) same in
    (cc (first, rest.0), rest.1)

pub decimal_only : (m n : ℕ) (x y : List ℕ) → m < 2 ^ 64 → n < 2 ^ 64 → StartsWord x → StartsWord y → decimal m ++ x ≡ decimal n ++ y → (m ≡ n) × (x ≡ y)
decimal_only m n x y low small h l same =
    let parts = digits_only (decimal m) (decimal n) x y (decimal_is_IsNumeral m low).0.1 (decimal_is_IsNumeral n small).0.1 h l same in
    (decimal_injective m n low small parts.0, parts.1)

pub number_only : (m n : ℕ) (x y : List ℕ) → m < 2 ^ 64 → n < 2 ^ 64 → StartsWord x → StartsWord y → number m ++ x ≡ number n ++ y → (m ≡ n) × (x ≡ y)
number_only m n x y low small h l same = decimal_only m n x y low small h l (same_rest 32 32 (decimal m ++ x) (decimal n ++ y) same)

-- a coordinate_text's digits begin with no minus
no_minus : (n : ℕ) (x y : List ℕ) → n < 2 ^ 64 → decimal n ++ x ≡ 45 ∷ y → ⊥
no_minus n x y small same = by_digits (decimal n) x y (decimal_is_IsNumeral n small).0 same
  where
    by_digits : (digits x y : List ℕ) → (0 < length digits) × AllDigits 10 digits → digits ++ x ≡ 45 ∷ y → ⊥
    by_digits [] x y d same = omega (arith, d.0)
    by_digits (byte ∷ digits) x y d same = omega (arith, same_first byte 45 (digits ++ x) y same, digit_from_value byte d.1.0)

pub signed_only : (a b : ℤ) (x y : List ℕ) → mag a < 2 ^ 63 → mag b < 2 ^ 63 → StartsWord x → StartsWord y
    → signed_decimal a ++ x ≡ signed_decimal b ++ y → (a ≡ b) × (x ≡ y)
signed_only (pos m) (pos n) x y low small h l same =
    let parts = decimal_only m n x y (omega arith) (omega arith) h l same in (ap pos parts.0, parts.1)
signed_only (pos m) (negsuc n) x y low small h l same = absurd (no_minus m x (decimal (suc n) ++ y) (omega arith) same)
signed_only (negsuc m) (pos n) x y low small h l same = absurd (no_minus n y (decimal (suc m) ++ x) (omega arith) (sym same))
signed_only (negsuc m) (negsuc n) x y low small h l same =
    let parts = decimal_only (suc m) (suc n) x y (omega arith) (omega arith) h l (same_rest 45 45 (decimal (suc m) ++ x) (decimal (suc n) ++ y) same) in
    (ap negsuc (omega (arith, parts.0)), parts.1)

pub coordinate_only : (a b : ℤ) (x y : List ℕ) → mag a < 2 ^ 63 → mag b < 2 ^ 63 → StartsWord x → StartsWord y
    → coordinate_text a ++ x ≡ coordinate_text b ++ y → (a ≡ b) × (x ≡ y)
coordinate_only a b x y low small h l same = signed_only a b x y low small h l (same_rest 32 32 (signed_decimal a ++ x) (signed_decimal b ++ y) same)

pub magnitude_32 : (z : ℤ) → FitsSigned w32 z → mag z < 2 ^ 31
magnitude_32 z fits = fits.sfits

pub coordinate_only_32 : (a b : ℤ) (x y : List ℕ) → FitsSigned w32 a → FitsSigned w32 b → StartsWord x → StartsWord y
    → coordinate_text a ++ x ≡ coordinate_text b ++ y → (a ≡ b) × (x ≡ y)
coordinate_only_32 a b x y low small h l same =
    coordinate_only a b x y (omega (arith, magnitude_32 a low)) (omega (arith, magnitude_32 b small)) h l same

-- a line's front can be taken away
pub cancel_front : (front x y : List ℕ) → front ++ x ≡ front ++ y → x ≡ y
cancel_front [] x y same = same
cancel_front (byte ∷ front) x y same = cancel_front front x y (same_rest byte byte (front ++ x) (front ++ y) same)

pub numbered_only : (word : List ℕ) (m n : ℕ) → m < 2 ^ 64 → n < 2 ^ 64 → numbered_line word m ≡ numbered_line word n → m ≡ n
numbered_only word m n low small same = decimal_injective m n low small (same_rest 32 32 (decimal m) (decimal n) (cancel_front word (number m) (number n) same))

-- ---- what no word holds: a space, a line feed

digits_visible : (digits : List ℕ) → AllDigits 10 digits → All (λ byte. 32 < byte) digits
digits_visible [] d = All-nil (λ byte. 32 < byte)
digits_visible (byte ∷ digits) d =
    All-cons (λ byte. 32 < byte) byte digits (omega (arith, digit_from_value byte d.0)) (digits_visible digits d.1)

pub decimal_visible : (n : ℕ) → n < 2 ^ 64 → All (λ byte. 32 < byte) (decimal n)
decimal_visible n small = digits_visible (decimal n) (decimal_is_IsNumeral n small).0.1

pub signed_visible : (z : ℤ) → mag z < 2 ^ 63 → All (λ byte. 32 < byte) (signed_decimal z)
signed_visible (pos n) small = decimal_visible n (omega arith)
signed_visible (negsuc n) small = All-cons (λ byte. 32 < byte) 45 (decimal (suc n)) (omega arith) (decimal_visible (suc n) (omega arith))

pub decimal_no_space : (n : ℕ) → n < 2 ^ 64 → All (λ byte. byte ≢ 32) (decimal n)
decimal_no_space n small = All-weaker (λ byte. 32 < byte) (λ byte. byte ≢ 32) (λ byte above. omega arith) (decimal n) (decimal_visible n small)

pub decimal_no_feed : (n : ℕ) → n < 2 ^ 64 → All (λ byte. byte ≢ 10) (decimal n)
decimal_no_feed n small = All-weaker (λ byte. 32 < byte) (λ byte. byte ≢ 10) (λ byte above. omega arith) (decimal n) (decimal_visible n small)

pub signed_no_space : (z : ℤ) → mag z < 2 ^ 63 → All (λ byte. byte ≢ 32) (signed_decimal z)
signed_no_space z small =
    All-weaker (λ byte. 32 < byte) (λ byte. byte ≢ 32) (λ byte above. omega arith) (signed_decimal z) (signed_visible z small)

pub signed_no_feed : (z : ℤ) → mag z < 2 ^ 63 → All (λ byte. byte ≢ 10) (signed_decimal z)
signed_no_feed z small =
    All-weaker (λ byte. 32 < byte) (λ byte. byte ≢ 10) (λ byte above. omega arith) (signed_decimal z) (signed_visible z small)

-- none is counted
pub visible_feeds : (bytes : List ℕ) → All (λ byte. 32 < byte) bytes → line_feeds bytes ≡ 0
visible_feeds [] all = refl
visible_feeds (byte ∷ bytes) all =
    let above = All-head (λ byte. 32 < byte) byte bytes all in
    other_counts byte bytes (ne_eqb byte 10 (omega arith)) ∙ visible_feeds bytes (All-tail (λ byte. 32 < byte) byte bytes all)

pub decimal_feeds : (n : ℕ) → n < 2 ^ 64 → line_feeds (decimal n) ≡ 0
decimal_feeds n small = visible_feeds (decimal n) (decimal_visible n small)

pub signed_feeds : (z : ℤ) → mag z < 2 ^ 63 → line_feeds (signed_decimal z) ≡ 0
signed_feeds z small = visible_feeds (signed_decimal z) (signed_visible z small)
