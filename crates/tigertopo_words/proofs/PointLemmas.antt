-- Words that spell a point, and what `parse` reads of their numbers.
use Rattle.std.proofs.Common.{◌≡◌, ◌≢◌, ◌⊎◌, ℕ, zero, suc, ◌<◌, ◌≤◌, ◌^◌, ℤ, pos, negsuc, unsigned_abs, inl, inr, w32, Bor, List, [], ◌∷◌, ◌++◌, Option, Some, None, length, get_or, drop, true, not, codes, refl, sym, ap, subst, ◌∙◌, arith, decimal, Result, Ok, Err}
use Rattle.std.specs.Prelude.{MatchOption, nat_eq}
use Rattle.std.specs.Cmp.Lexicographic.{pointwise}
use Rattle.std.proofs.lemmas.Cmp.{nat_list_eq_equiv}
use Rattle.tl_record.specs.Limits.{greatest_longitude, greatest_latitude}
use Rattle.std.specs.Fmt.{signed_decimal}
use Rattle.std.specs.Int.Signed.{mag}
use Rattle.std.specs.Str.Parse.{ParsesSigned}
use Rattle.std.proofs.lemmas.Str.Parse.{digit_at}
use Rattle.std.proofs.lemmas.Str.Pattern.{IsSplitOnceResult, split_after, split_parts}
use Rattle.std.proofs.lemmas.Fmt.{decimal_is_IsNumeral, parse-signed_decimal}
use Rattle.std.proofs.lemmas.Int.{fits_signed_from_abs}
use Rattle.tl_geom.specs.declared.point.Point.{Point}
use Rattle.tigertopo_words.specs.Points.{AreMillionths, SpellsBy}

mag_small : (z : ℤ) → mag z ≤ unsigned_abs z
mag_small (pos n) = omega arith
mag_small (negsuc n) = omega arith

pub framed : (xs ys : List ℕ) → codes "@" ++ xs ++ codes "," ++ ys ≡ 64 ∷ (xs ++ (44 ∷ ys))
framed [] ys = refl
framed (x ∷ xs) ys = ap (λ l. 64 ∷ (x ∷ drop 1 l)) (framed xs ys)

-- no byte of a number's digits is one below the digits
pub digit_not : (n : ℕ) (byte : ℕ) (i : ℕ) → n < 2 ^ 64 → byte < 48 → i < length (decimal n) → get_or (decimal n) i 0 ≢ byte
digit_not n byte i small below within same =
    let digit = digit_at (decimal n) i (decimal_is_IsNumeral n small).0.1 within in
    grind (arith, digit, same)

-- no text of a coordinate has a comma
abbrev pub HasNoComma : (List ℕ → ℤ → Type 0) → Type 0
HasNoComma coordinate = (text : List ℕ) (z : ℤ) → coordinate text z → unsigned_abs z < 2 ^ 31 → (i : ℕ) → i < length text → get_or text i 0 ≢ 44

no_comma : (z : ℤ) → unsigned_abs z < 2 ^ 31 → (i : ℕ) → i < length (signed_decimal z) → get_or (signed_decimal z) i 0 ≢ 44
no_comma (pos n) small i within = digit_not n 44 i (omega (arith, small)) (omega arith) within
no_comma (negsuc n) small zero within = λ comma. absurd (omega (arith, comma))
no_comma (negsuc n) small (suc i) within = digit_not (suc n) 44 i (omega (arith, small)) (omega arith) (omega (arith, within))

pub millionths_no_comma : HasNoComma AreMillionths
millionths_no_comma text z spelt small = rw spelt (no_comma z small)

-- what is read is the number that is spelt
pub is_spelt : {E : Type 0} (bytes : List ℕ) (limit : ℕ) (r : Result ℤ E) (z : ℤ) → limit < 2 ^ 31 → ParsesSigned w32 10 bytes r → unsigned_abs z ≤ limit → bytes ≡ signed_decimal z → r ≡ Ok z
is_spelt bytes limit r z low parses small spelt =
    parse-signed_decimal w32 z bytes r (fits_signed_from_abs w32 z (omega (arith, low, small))) (omega (arith, low, small, mag_small z)) spelt parses

-- a text without a number spells none
pub not_read : {E : Type 0} (bytes : List ℕ) (limit : ℕ) (e : E) (r : Result ℤ E) → limit < 2 ^ 31 → ParsesSigned w32 10 bytes r → r ≡ Err e
    → (z : ℤ) → unsigned_abs z ≤ limit → bytes ≡ signed_decimal z → ⊥
not_read bytes limit e r low parses is z small spelt = cc (is, is_spelt bytes limit r z low parses small spelt)

-- a text with another number, or one that is spelt otherwise, or one past the limit, spells none
pub other_read : {E : Type 0} (bytes : List ℕ) (limit : ℕ) (n : ℤ) (r : Result ℤ E) → limit < 2 ^ 31 → ParsesSigned w32 10 bytes r → r ≡ Ok n
    → (bytes ≢ signed_decimal n) ⊎ (limit < unsigned_abs n) → (z : ℤ) → unsigned_abs z ≤ limit → bytes ≡ signed_decimal z → ⊥
other_read bytes limit n r low parses is other z small spelt =
    let same : z ≡ n = cc (is, is_spelt bytes limit r z low parses small spelt) in
    elim other [
      | inl text ↦ text (spelt ∙ ap signed_decimal same)
      | inr far ↦ (let e = ap unsigned_abs same in omega (arith, e, far, small))
    ]

-- a text that is another one isn't the number's
pub other_text : (shown bytes : List ℕ) (n : ℤ) → shown ≡ signed_decimal n → not (pointwise nat_eq shown bytes) ≡ true → bytes ≢ signed_decimal n
other_text shown bytes n is other spelt =
    let same : pointwise nat_eq shown bytes ≡ true = rw (is ∙ sym spelt) (nat_list_eq_equiv.refl bytes) in
    cc (same, other)

module _ (coordinate : List ℕ → ℤ → Type 0) (free : HasNoComma coordinate) where
  -- what follows the @
  behind : (word rest : List ℕ) (p : Point) → word ≡ 64 ∷ rest → (spells : SpellsBy coordinate word p) → rest ≡ spells.east ++ (44 ∷ spells.north)
  behind word rest p front spells = ap (drop 1) (sym front ∙ spells.is ∙ framed spells.east spells.north)

  -- where the first comma splits it
  parts : (word rest : List ℕ) (r : Option (Bor (List ℕ) × Bor (List ℕ))) (p : Point) → word ≡ 64 ∷ rest → IsSplitOnceResult 44 rest r → (spells : SpellsBy coordinate word p)
      → MatchOption r ⊥ (λ x. (x.0.now ≡ spells.east) × (x.1.now ≡ spells.north))
  parts word rest r p front split spells =
      split_after 44 rest spells.east spells.north r split (omega arith) (behind word rest p front spells)
      (free spells.east p.x spells.x (let limit = spells.longitude in omega arith))

  -- a word without an @ in front, or without a comma, spells no point
  pub no_front : (word : List ℕ) (r : Option (Bor (List ℕ))) → MatchOption r ((rest : List ℕ) → word ≢ 64 ∷ rest) (λ x. word ≡ 64 ∷ x.now) → r ≡ None → (p : Point) → SpellsBy coordinate word p → ⊥
  no_front word r cases none p spells =
      let other : (rest : List ℕ) → word ≢ 64 ∷ rest = subst (λ (o : Option (Bor (List ℕ))). MatchOption o ((rest : List ℕ) → word ≢ 64 ∷ rest) (λ x. word ≡ 64 ∷ x.now)) none cases in
      other (spells.east ++ (44 ∷ spells.north)) (spells.is ∙ framed spells.east spells.north)

  pub no_split : (word rest : List ℕ) (r : Option (Bor (List ℕ) × Bor (List ℕ))) → word ≡ 64 ∷ rest → IsSplitOnceResult 44 rest r → r ≡ None → (p : Point) → SpellsBy coordinate word p → ⊥
  no_split word rest r front split none p spells =
      subst (λ (o : Option (Bor (List ℕ) × Bor (List ℕ))). MatchOption o ⊥ (λ x. (x.0.now ≡ spells.east) × (x.1.now ≡ spells.north))) none (parts word rest r p front split spells)

  -- the parts of a word that spells a point spell its numbers
  pub both : (word rest : List ℕ) (r : Option (Bor (List ℕ) × Bor (List ℕ))) (x y : Bor (List ℕ)) → word ≡ 64 ∷ rest → IsSplitOnceResult 44 rest r → r ≡ Some (x, y) → (p : Point) → SpellsBy coordinate word p
      → coordinate x.now p.x × coordinate y.now p.y
  both word rest r x y front split is p spells =
      let cut = subst (λ (o : Option (Bor (List ℕ) × Bor (List ℕ))). MatchOption o ⊥ (λ x. (x.0.now ≡ spells.east) × (x.1.now ≡ spells.north))) is (parts word rest r p front split spells) in
      (subst (λ (text : List ℕ). coordinate text p.x) (sym cut.0) spells.x, subst (λ (text : List ℕ). coordinate text p.y) (sym cut.1) spells.y)

  -- a word whose parts spell the numbers of a point spells it
  pub spells_both : (word rest : List ℕ) (r : Option (Bor (List ℕ) × Bor (List ℕ))) (x y : Bor (List ℕ)) (p : Point) → word ≡ 64 ∷ rest → IsSplitOnceResult 44 rest r → r ≡ Some (x, y)
      → coordinate x.now p.x × (unsigned_abs p.x ≤ greatest_longitude) → coordinate y.now p.y × (unsigned_abs p.y ≤ greatest_latitude) → SpellsBy coordinate word p
  spells_both word rest r x y p front split is east north =
      let cut = subst (λ (o : Option (Bor (List ℕ) × Bor (List ℕ))). MatchOption o ((i : ℕ) → i < length rest → get_or rest i 0 ≢ 44) (λ x. (rest ≡ x.0.now ++ (44 ∷ x.1.now)) × ((i : ℕ) → i < length x.0.now → get_or x.0.now i 0 ≢ 44))) is
      (split_parts 44 rest r split (omega arith)) in record {
        east = x.now;
        north = y.now;
        is = front ∙ ap (λ l. 64 ∷ l) cut.0 ∙ sym (framed x.now y.now);
        x = east.0;
        y = north.0;
        longitude = east.1;
        latitude = north.1;
      }

-- where a @ stands in front
pub with_front : (word : List ℕ) (r : Option (Bor (List ℕ))) (v : Bor (List ℕ)) → MatchOption r ((rest : List ℕ) → word ≢ 64 ∷ rest) (λ x. word ≡ 64 ∷ x.now) → r ≡ Some v → word ≡ 64 ∷ v.now
with_front word r v cases is = subst (λ (o : Option (Bor (List ℕ))). MatchOption o ((rest : List ℕ) → word ≢ 64 ∷ rest) (λ x. word ≡ 64 ∷ x.now)) is cases
