-- What is spelt in a field is read there.
use Rattle.std.proofs.Common.{◌≡◌, ℕ, ℤ, pos, negsuc, ◌-ℤ◌, zero, suc, ◌+◌, ◌-◌, ◌^◌, ◌<◌, ◌&&◌, Bool, true, false, List, [], ◌∷◌, ◌++◌, length, take, drop, replicate, refl, ap, ◌∙◌, arith, rules, decimal, length-append, append_assoc}
use Rattle.std.proofs.lemmas.Int.{ints}
use Rattle.std.specs.List.{list_all}
use Rattle.std.specs.Char.{is_ascii_digit}
use Rattle.std.specs.Prelude.{unsigned_abs}
use Rattle.std.proofs.lemmas.List.{length-replicate}
use Rattle.std.proofs.lemmas.List.Folds.{list_all-append}
use Rattle.std.proofs.lemmas.Bool.Decides.{nat_tests}
use Rattle.std.proofs.lemmas.Str.Parse.{IsNumeralModel, numerals_by_weight}
use Rattle.std.proofs.lemmas.Fmt.{digits_decimal, digits_value-decimal, decimal_nonempty, length-decimal-le}
use Rattle.tl_record.specs.Range.{Range}
use Rattle.tl_record.specs.Fields.{blank, is_blank, width_of, field, without_leading_blanks, without_trailing_blanks, trimmed, digits_spell, unsigned_spells, number_spelt, coordinate_spelt, decimal as value_of}
use Rattle.tl_record.specs.declared.number.Spelt.TheVariants.{Value}
use Rattle.tigertopo_border.specs.Spelling.{filled, blanks, number_field, coordinate_field}
use Rattle.std.proofs.lemmas.Bool.{and_parts as both_parts}

-- ---- digits

pub own : IsNumeralModel (λ ds. list_all is_ascii_digit ds ≡ true) value_of
own = numerals_by_weight _ (search rules) value_of (search rules)

pub all_digits : (n : ℕ) → n < 2 ^ 64 → list_all is_ascii_digit (decimal n) ≡ true
all_digits n small = digits_decimal own n small

pub worth : (n : ℕ) → n < 2 ^ 64 → value_of (decimal n) ≡ n
worth n small = digits_value-decimal own n small

digit_not_blank : (d : ℕ) → is_ascii_digit d ≡ true → is_blank d ≡ false
digit_not_blank d is = grind (arith, nat_tests)

-- digits have no blanks round them
keeps_front : (ds : List ℕ) → list_all is_ascii_digit ds ≡ true → without_leading_blanks ds ≡ ds
keeps_front [] all = refl
keeps_front (d ∷ ds) all = rw (digit_not_blank d (both_parts _ _ all).0) refl

keeps_back : (ds : List ℕ) → list_all is_ascii_digit ds ≡ true → without_trailing_blanks ds ≡ ds
keeps_back [] all = refl
keeps_back (d ∷ ds) all =
    let parts = both_parts (is_ascii_digit d) (list_all is_ascii_digit ds) all in
    let some : list_all is_blank (d ∷ ds) ≡ false = rw (digit_not_blank d parts.0) refl in
    rw (some, keeps_back ds parts.1) refl

blanks_go : (k : ℕ) (ds : List ℕ) → without_leading_blanks (replicate k 32 ++ ds) ≡ without_leading_blanks ds
blanks_go zero ds = refl
blanks_go (suc k) ds = blanks_go k ds

-- digits spell their value
spelt : (ds : List ℕ) → 0 < length ds → list_all is_ascii_digit ds ≡ true → digits_spell ds ≡ Value (value_of ds)
spelt [] some all = absurd (omega arith)
spelt (d ∷ ds) some all = rw all refl

unsigned : (ds : List ℕ) → 0 < length ds → list_all is_ascii_digit ds ≡ true → unsigned_spells ds ≡ Value (value_of ds)
unsigned [] some all = absurd (omega arith)
unsigned (d ∷ ds) some all = spelt (d ∷ ds) some all

-- a number is read again
pub number_read : (width n : ℕ) → n < 2 ^ 64 → number_spelt (number_field width n) ≡ Value n
number_read width n small =
    let digits = all_digits n small in
    let trim : trimmed (number_field width n) ≡ decimal n =
    ap without_trailing_blanks (blanks_go (width - length (decimal n)) (decimal n) ∙ keeps_front (decimal n) digits) ∙ keeps_back (decimal n) digits in
    ap unsigned_spells trim ∙ unsigned (decimal n) (decimal_nonempty n small) digits ∙ ap (λ v. Value v) (worth n small)

-- zeros before digits
zeros_go : (k : ℕ) (ds : List ℕ) → value_of (replicate k 48 ++ ds) ≡ value_of ds
zeros_go zero ds = refl
zeros_go (suc k) ds = let rest = zeros_go k ds in omega (arith, rest)

all_zeros : (k : ℕ) → list_all is_ascii_digit (replicate k 48) ≡ true
all_zeros zero = refl
all_zeros (suc k) = all_zeros k

filled_digits : (width n : ℕ) → n < 2 ^ 64 → list_all is_ascii_digit (filled 48 width n) ≡ true
filled_digits width n small = list_all-append is_ascii_digit (replicate (width - length (decimal n)) 48) (decimal n) ∙ rw (all_zeros (width - length (decimal n)), all_digits n small) refl

filled_some : (width n : ℕ) → n < 2 ^ 64 → 0 < length (filled 48 width n)
filled_some width n small = omega (arith, length-append (replicate (width - length (decimal n)) 48) (decimal n), decimal_nonempty n small)

filled_spelt : (width n : ℕ) → n < 2 ^ 64 → digits_spell (filled 48 width n) ≡ Value n
filled_spelt width n small =
    spelt (filled 48 width n) (filled_some width n small) (filled_digits width n small)
    ∙ ap (λ v. Value v) (zeros_go (width - length (decimal n)) (decimal n) ∙ worth n small)

negative : (n : ℕ) → pos 0 -ℤ pos (suc n) ≡ negsuc n
negative n = omega (arith, ints)

-- a coordinate is read again
pub coordinate_read : (digits : ℕ) (z : ℤ) → unsigned_abs z < 2 ^ 64 → coordinate_spelt (coordinate_field digits z) ≡ Value z
unfolding coordinate_field
coordinate_read digits (pos n) small =
    rw (keeps_back (filled 48 digits n) (filled_digits digits n small), filled_spelt digits n small) refl
coordinate_read digits (negsuc n) small =
    rw (keeps_back (filled 48 digits (suc n)) (filled_digits digits (suc n) small), filled_spelt digits (suc n) small) (ap (λ z. Value z) (negative n))

-- ---- widths

pub length_filled : (byte width n : ℕ) → 0 < width → n < 10 ^ width → n < 2 ^ 64 → length (filled byte width n) ≡ width
length_filled byte width n some fits small =
    let short = length-decimal-le width n some fits small in
    omega (arith, short, length-append (replicate (width - length (decimal n)) byte) (decimal n), length-replicate (width - length (decimal n)) byte)

pub length_blanks : (n : ℕ) → length (blanks n) ≡ n
unfolding blanks
length_blanks n = length-replicate n 32

pub length_coordinate : (digits : ℕ) (z : ℤ) → 0 < digits → unsigned_abs z < 10 ^ digits → unsigned_abs z < 2 ^ 64 → length (coordinate_field digits z) ≡ digits + 1
unfolding coordinate_field
length_coordinate digits (pos n) some fits small = let long = length_filled 48 digits n some fits small in omega (arith, long)
length_coordinate digits (negsuc n) some fits small = let long = length_filled 48 digits (suc n) some fits small in omega (arith, long)

-- ---- places

drop_front : (front rest : List ℕ) (n : ℕ) → length front ≡ n → drop n (front ++ rest) ≡ rest
drop_front [] rest zero is = refl
drop_front [] rest (suc n) is = absurd (omega (arith, is))
drop_front (x ∷ front) rest zero is = absurd (omega (arith, is))
drop_front (x ∷ front) rest (suc n) is = drop_front front rest n (omega (arith, is))

take_front : (front rest : List ℕ) (n : ℕ) → length front ≡ n → take n (front ++ rest) ≡ front
take_front [] rest zero is = refl
take_front [] rest (suc n) is = absurd (omega (arith, is))
take_front (x ∷ front) rest zero is = absurd (omega (arith, is))
take_front (x ∷ front) rest (suc n) is = ap (λ ys. x ∷ ys) (take_front front rest n (omega (arith, is)))

-- a field that stands behind so many bytes
pub field_at : (line front text back : List ℕ) (range : Range) → line ≡ front ++ (text ++ back) → length front ≡ range.first - 1 → length text ≡ width_of range → field line range ≡ text
field_at line front text back range is before wide =
    let rest : drop (range.first - 1) line ≡ text ++ back = ap (drop (range.first - 1)) is ∙ drop_front front (text ++ back) (range.first - 1) before in
    ap (λ bytes. take (width_of range) (bytes ++ replicate (width_of range) blank)) rest ∙ ap (take (width_of range)) (append_assoc text back (replicate (width_of range) blank))
    ∙ take_front text (back ++ replicate (width_of range) blank) (width_of range) wide
