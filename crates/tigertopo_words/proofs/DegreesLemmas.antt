-- Texts that spell a coordinate in degrees.
use Rattle.std.proofs.Common.{◌≡◌, ◌≢◌, ℕ, zero, suc, ◌+◌, ◌-◌, ◌*◌, ◌<◌, ◌≤◌, ◌^◌, ℤ, pos, negsuc, unsigned_abs, inl, inr, Bor, List, [], ◌∷◌, ◌++◌, Option, Some, None, length, get_or, codes, refl, sym, ap, subst, ◌∙◌, arith, decimal, drop, Result, Ok, Err, append_assoc}
use Rattle.std.specs.Prelude.{MatchOption}
use Rattle.std.specs.Result.{OkIff}
use Rattle.std.specs.Str.Parse.{ParsesUnsigned, AllDigits, digits_value}
use Rattle.std.proofs.lemmas.Str.Parse.{IsNumeralModel, digit_at, digits_value_short, parse_plain, parse_gives}
use Rattle.std.proofs.lemmas.Str.Pattern.{IsSplitOnceResult, split_after, split_parts}
use Rattle.std.proofs.lemmas.Fmt.{decimal_nonempty}
use Rattle.tl_geom.specs.declared.point.Point.{Point}
use Rattle.tigertopo_words.specs.Arguments.{IsSpelt}
use Rattle.tigertopo_words.specs.Points.{AreMillionths, AreDecimals, AreDegreesOf, AreDegrees, SpellsBy, Spells}
use Rattle.tigertopo_words.proofs.BudgetLemmas.{one_number}
use Rattle.tigertopo_words.proofs.PointLemmas.{digit_not, HasNoComma}

own : IsNumeralModel (AllDigits 10) (digits_value 10)
own = record { to = λ ds all. all; from = λ ds all. all; same = λ ds all. refl }

-- so many decimals are less than a degree
pub less_than_one : (size value : ℕ) → size ≤ 6 → value < 10 ^ size → value * 10 ^ (6 - size) < 1000000
less_than_one zero value few less = omega (arith, less)
less_than_one (suc zero) value few less = omega (arith, less)
less_than_one (suc (suc zero)) value few less = omega (arith, less)
less_than_one (suc (suc (suc zero))) value few less = omega (arith, less)
less_than_one (suc (suc (suc (suc zero)))) value few less = omega (arith, less)
less_than_one (suc (suc (suc (suc (suc zero))))) value few less = omega (arith, less)
less_than_one (suc (suc (suc (suc (suc (suc zero)))))) value few less = omega (arith, less)
less_than_one (suc (suc (suc (suc (suc (suc (suc size))))))) value few less = absurd (omega arith)

-- decimals spell one number
same_part : (decimals : List ℕ) (m n : ℕ) → AreDecimals decimals m → AreDecimals decimals n → m ≡ n
same_part decimals m n one other = one.worth ∙ sym other.worth

dotted : (xs ys : List ℕ) → xs ++ codes "." ++ ys ≡ xs ++ (46 ∷ ys)
dotted xs ys = append_assoc xs (codes ".") ys

whole_small : (text : List ℕ) (n : ℕ) → n < 2 ^ 31 → (d : AreDegreesOf text n) → d.whole < 2 ^ 31
whole_small text n small d = let sum = d.sum in omega arith

-- where the first point splits a text
cut : (text : List ℕ) (r : Option (Bor (List ℕ) × Bor (List ℕ))) → IsSplitOnceResult 46 text r → (n : ℕ) → n < 2 ^ 31 → (d : AreDegreesOf text n)
    → MatchOption r ⊥ (λ x. (x.0.now ≡ decimal d.whole) × (x.1.now ≡ d.decimals))
cut text r split n small d =
    let whole = whole_small text n small d in
    split_after 46 text (decimal d.whole) d.decimals r split (omega arith) (d.is ∙ dotted (decimal d.whole) d.decimals)
    (λ i within. digit_not d.whole 46 i (omega (arith, whole)) (omega arith) within)

-- a text without a point spells no degrees
pub no_point : (text : List ℕ) (r : Option (Bor (List ℕ) × Bor (List ℕ))) → IsSplitOnceResult 46 text r → r ≡ None → (n : ℕ) → n < 2 ^ 31 → AreDegreesOf text n → ⊥
no_point text r split none n small d =
    subst (λ (o : Option (Bor (List ℕ) × Bor (List ℕ))). MatchOption o ⊥ (λ x. (x.0.now ≡ decimal d.whole) × (x.1.now ≡ d.decimals))) none (cut text r split n small d)

module _ (text : List ℕ) (r : Option (Bor (List ℕ) × Bor (List ℕ))) (x y : Bor (List ℕ)) (split : IsSplitOnceResult 46 text r) (is : r ≡ Some (x, y)) where
  -- its parts are those of the text
  parts_of : (n : ℕ) → n < 2 ^ 31 → (d : AreDegreesOf text n) → (x.now ≡ decimal d.whole) × (y.now ≡ d.decimals)
  parts_of n small d =
      subst (λ (o : Option (Bor (List ℕ) × Bor (List ℕ))). MatchOption o ⊥ (λ x. (x.0.now ≡ decimal d.whole) × (x.1.now ≡ d.decimals))) is (cut text r split n small d)

  whole_of : (n : ℕ) → n < 2 ^ 31 → (d : AreDegreesOf text n) → IsSpelt x.now d.whole
  whole_of n small d = ((parts_of n small d).0, let less = whole_small text n small d in omega (arith, less))

  part_of : (n : ℕ) → n < 2 ^ 31 → (d : AreDegreesOf text n) → AreDecimals y.now d.part
  part_of n small d = subst (λ (l : List ℕ). AreDecimals l d.part) (sym (parts_of n small d).1) d.behind

  -- a part that is no number, and one that is no decimals
  pub no_whole : ((n : ℕ) → IsSpelt x.now n → ⊥) → (n : ℕ) → n < 2 ^ 31 → AreDegreesOf text n → ⊥
  no_whole none n small d = none d.whole (whole_of n small d)

  pub no_part : ((n : ℕ) → AreDecimals y.now n → ⊥) → (n : ℕ) → n < 2 ^ 31 → AreDegreesOf text n → ⊥
  no_part none n small d = none d.part (part_of n small d)

  -- the number that the parts spell is the only one
  pub the_number : (whole part : ℕ) → IsSpelt x.now whole → AreDecimals y.now part → (n : ℕ) → n < 2 ^ 31 → AreDegreesOf text n → n ≡ whole * 1000000 + part
  the_number whole part spelt decimals n small d =
      let first : d.whole ≡ whole = one_number x.now d.whole whole (whole_of n small d) spelt in
      let second : d.part ≡ part = same_part y.now d.part part (part_of n small d) decimals in
      let sum = d.sum in omega arith

  pub spells_number : (whole part n : ℕ) → IsSpelt x.now whole → AreDecimals y.now part → n ≡ whole * 1000000 + part → AreDegreesOf text n
  spells_number whole part n spelt decimals sum =
      let front = subst (λ (o : Option (Bor (List ℕ) × Bor (List ℕ))). MatchOption o ((i : ℕ) → i < length text → get_or text i 0 ≢ 46) (λ x. (text ≡ x.0.now ++ (46 ∷ x.1.now)) × ((i : ℕ) → i < length x.0.now → get_or x.0.now i 0 ≢ 46))) is
      (split_parts 46 text r split (omega arith)) in record {
        whole = whole;
        decimals = y.now;
        part = part;
        is = front.0 ∙ ap (λ (l : List ℕ). l ++ (46 ∷ y.now)) spelt.0 ∙ sym (dotted (decimal whole) y.now);
        behind = decimals;
        sum = sum;
      }

-- decimals that are read
pub read_part : {E : Type 0} (bytes : List ℕ) (number : ℕ) (r : Result ℕ E) → get_or bytes 0 0 ≢ 43 → 1 ≤ length bytes → length bytes ≤ 6 → ParsesUnsigned 32 10 bytes r → r ≡ Ok number
    → AreDecimals bytes (number * 10 ^ (6 - length bytes)) × (number < 10 ^ length bytes)
read_part {E = E} bytes number r plain some few parses is =
    let read = subst (λ (o : Result ℕ E). OkIff o (AllDigits 10 bytes × (0 < length bytes) × (digits_value 10 bytes < 2 ^ 32)) (digits_value 10 bytes)) is (parse_plain own 32 bytes r parses plain) in (
      record { digits = read.0.0; some = some; most = few; worth = ap (λ (v : ℕ). v * 10 ^ (6 - length bytes)) read.1 },
      let less = digits_value_short own bytes (length bytes) read.0.0 (omega arith) in omega (arith, less, read.1),
    )

-- scaled to millionths
pub read_scaled : {E : Type 0} (text bytes : List ℕ) (number scale : ℕ) (r : Result ℕ E) → bytes ≡ text → get_or bytes 0 0 ≢ 43 → 1 ≤ length bytes → length bytes ≤ 6 → ParsesUnsigned 32 10 text r → r ≡ Ok number
    → scale ≡ 10 ^ (6 - length bytes) → AreDecimals text (number * scale) × (number * scale < 1000000)
read_scaled text bytes number scale r same plain some few parses is scaled =
    let here = subst (λ (l : List ℕ). get_or l 0 0 ≢ 43) same plain in
    let size = ap (length {A = ℕ}) same in
    let read = read_part text number r here (omega (arith, size, some)) (omega (arith, size, few)) parses is in
    let worth : number * 10 ^ (6 - length text) ≡ number * scale = ap (λ (k : ℕ). number * k) (ap (λ (k : ℕ). 10 ^ (6 - k)) (sym size) ∙ sym scaled) in
    let less = less_than_one (length text) number (omega (arith, size, few)) read.1 in
    (subst (AreDecimals text) worth read.0, omega (arith, worth, less))

-- and ones that can't be
pub no_read_part : {E : Type 0} (bytes : List ℕ) (e : E) (r : Result ℕ E) → ParsesUnsigned 32 10 bytes r → r ≡ Err e → (n : ℕ) → AreDecimals bytes n → ⊥
no_read_part bytes e r parses is n decimals =
    let value = digits_value_short own bytes 6 decimals.digits decimals.most in
    let ok = parse_gives own 32 bytes r parses decimals.digits (let some = decimals.some in omega arith) (omega (arith, value)) in
    cc (is, ok)

-- no byte of some is a comma
abbrev NoComma : List ℕ → Type 0
NoComma bytes = (i : ℕ) → i < length bytes → get_or bytes i 0 ≢ 44

among : (xs ys : List ℕ) → NoComma xs → NoComma ys → NoComma (xs ++ ys)
among [] ys first second i within = second i within
among (x ∷ xs) ys first second zero within = first 0 (omega arith)
among (x ∷ xs) ys first second (suc i) within = among xs ys (λ j less. first (suc j) (omega (arith, less))) second i (omega arith)

one_byte : (byte : ℕ) → byte ≢ 44 → NoComma (byte ∷ [])
one_byte byte other zero within = other
one_byte byte other (suc i) within = absurd (omega arith)

decimals_free : (decimals : List ℕ) → AllDigits 10 decimals → NoComma decimals
decimals_free decimals all i within same = let digit = digit_at decimals i all within in grind (arith, digit, same)

distance_free : (text : List ℕ) (n : ℕ) → n < 2 ^ 31 → AreDegreesOf text n → NoComma text
distance_free text n small d =
    let whole = whole_small text n small d in
    subst NoComma (sym d.is)
    (among (decimal d.whole ++ codes ".") d.decimals
    (among (decimal d.whole) (codes ".") (λ i within. digit_not d.whole 44 i (omega (arith, whole)) (omega arith) within) (one_byte 46 (λ same. omega (arith, same))))
    (decimals_free d.decimals d.behind.digits))

pub degrees_no_comma : HasNoComma AreDegrees
degrees_no_comma text (pos n) spelt small = distance_free text n small spelt
degrees_no_comma text (negsuc n) spelt small =
    subst NoComma (sym spelt.1) (among (codes "-") spelt.0 (one_byte 45 (λ same. omega (arith, same))) (distance_free spelt.0 (suc n) (omega (arith, small)) spelt.2))

-- degrees with no sign begin with a digit
first_of : (xs ys : List ℕ) → 0 < length xs → get_or (xs ++ ys) 0 0 ≡ get_or xs 0 0
first_of [] ys some = absurd (omega arith)
first_of (x ∷ xs) ys some = refl

no_minus : (text rest : List ℕ) (n : ℕ) → n < 2 ^ 31 → AreDegreesOf text n → text ≡ 45 ∷ rest → ⊥
no_minus text rest n small d minus =
    let whole = whole_small text n small d in
    let some = decimal_nonempty d.whole (omega (arith, whole)) in
    let first = first_of (decimal d.whole) (46 ∷ d.decimals) some in
    let here = ap (λ (l : List ℕ). get_or l 0 0) (sym minus ∙ d.is ∙ dotted (decimal d.whole) d.decimals) in
    digit_not d.whole 45 0 (omega (arith, whole)) (omega arith) some (sym (here ∙ first))

-- a text that begins with a minus, and one that doesn't
pub minus_front : (text : List ℕ) (r : Option (Bor (List ℕ))) (v : Bor (List ℕ)) → MatchOption r ((rest : List ℕ) → text ≢ 45 ∷ rest) (λ x. text ≡ 45 ∷ x.now) → r ≡ Some v → text ≡ 45 ∷ v.now
minus_front text r v cases is = subst (λ (o : Option (Bor (List ℕ))). MatchOption o ((rest : List ℕ) → text ≢ 45 ∷ rest) (λ x. text ≡ 45 ∷ x.now)) is cases

pub no_minus_front : (text : List ℕ) (r : Option (Bor (List ℕ))) → MatchOption r ((rest : List ℕ) → text ≢ 45 ∷ rest) (λ x. text ≡ 45 ∷ x.now) → r ≡ None → (rest : List ℕ) → text ≢ 45 ∷ rest
no_minus_front text r cases is = subst (λ (o : Option (Bor (List ℕ))). MatchOption o ((rest : List ℕ) → text ≢ 45 ∷ rest) (λ x. text ≡ 45 ∷ x.now)) is cases

-- what follows a minus
pub with_minus : (text rest : List ℕ) (limit : ℕ) (r : Option ℤ) → limit < 2 ^ 31 → text ≡ 45 ∷ rest
    → MatchOption r ((n : ℕ) → suc n ≤ limit → AreDegreesOf rest (suc n) → ⊥) (λ z. (n : ℕ) × (z ≡ negsuc n) × AreDegreesOf rest (suc n) × (suc n ≤ limit))
    → MatchOption r ((z : ℤ) → unsigned_abs z ≤ limit → AreDegrees text z → ⊥) (λ z. AreDegrees text z × (unsigned_abs z ≤ limit))
with_minus text rest limit None low minus none = none_with text rest limit low minus none
  where
    none_with : (text rest : List ℕ) (limit : ℕ) → limit < 2 ^ 31 → text ≡ 45 ∷ rest → ((n : ℕ) → suc n ≤ limit → AreDegreesOf rest (suc n) → ⊥)
        → (z : ℤ) → unsigned_abs z ≤ limit → AreDegrees text z → ⊥
    none_with text rest limit low minus none (pos n) within spelt = no_minus text rest n (omega (arith, low, within)) spelt minus
    none_with text rest limit low minus none (negsuc n) within spelt =
        let same : spelt.0 ≡ rest = ap (drop 1) (sym spelt.1 ∙ minus) in
        none n (omega (arith, within)) (subst (λ (l : List ℕ). AreDegreesOf l (suc n)) same spelt.2)
with_minus text rest limit (Some z) low minus some =
    subst (λ (w : ℤ). AreDegrees text w × (unsigned_abs w ≤ limit)) (sym some.1) ((rest, minus, some.2), omega (arith, some.3))

-- and what has none
pub without_minus : (text : List ℕ) (limit : ℕ) (r : Option ℤ) → limit < 2 ^ 31 → ((rest : List ℕ) → text ≢ 45 ∷ rest)
    → MatchOption r ((n : ℕ) → n ≤ limit → AreDegreesOf text n → ⊥) (λ z. (n : ℕ) × (z ≡ pos n) × AreDegreesOf text n × (n ≤ limit))
    → MatchOption r ((z : ℤ) → unsigned_abs z ≤ limit → AreDegrees text z → ⊥) (λ z. AreDegrees text z × (unsigned_abs z ≤ limit))
without_minus text limit None low other none = none_without text limit other none
  where
    none_without : (text : List ℕ) (limit : ℕ) → ((rest : List ℕ) → text ≢ 45 ∷ rest) → ((n : ℕ) → n ≤ limit → AreDegreesOf text n → ⊥)
        → (z : ℤ) → unsigned_abs z ≤ limit → AreDegrees text z → ⊥
    none_without text limit other none (pos n) within spelt = none n within spelt
    none_without text limit other none (negsuc n) within spelt = other spelt.0 spelt.1
without_minus text limit (Some z) low other some =
    subst (λ (w : ℤ). AreDegrees text w × (unsigned_abs w ≤ limit)) (sym some.1) (some.2, some.3)

-- the word spells no point in either unit
pub in_no_unit : (word : List ℕ) → ((p : Point) → SpellsBy AreMillionths word p → ⊥) → (r : Option Point)
    → MatchOption r ((p : Point) → SpellsBy AreDegrees word p → ⊥) (SpellsBy AreDegrees word) → MatchOption r ((p : Point) → Spells word p → ⊥) (Spells word)
in_no_unit word none None other = λ p spells. elim spells [ inl one ↦ none p one | inr two ↦ other p two ]
in_no_unit word none (Some p) spells = inr spells
