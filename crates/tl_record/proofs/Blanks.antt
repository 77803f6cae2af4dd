-- Blanks at the end of a field.
use Rattle.std.proofs.Common.{◌≡◌, ℕ, zero, suc, ◌+◌, ◌-◌, ◌<◌, ◌≤◌, true, false, ◌&&◌, Bool, List, [], ◌∷◌, ◌++◌, length, take, drop, length-drop, get_or, refl, ap, sym, ◌∙◌, arith, replicate}
use Rattle.std.proofs.Common.{inl, inr, take_all, map, not, cond, eqb}
use Rattle.std.proofs.lemmas.Bool.{cases_Bool, cases_lt, and_parts as both_parts}
use Rattle.std.proofs.lemmas.List.{take_more, take-append-le, take-take, drop-drop}
use Rattle.std.proofs.lemmas.List.Sums.{prefix_len-le-length}
use Rattle.std.proofs.lemmas.Simd.{first_set_mask_l}
use Rattle.std.specs.List.{prefix_len}
use lib.Lanes.{mask_l}
use lib.Count.{count_trailing_zeros}
use Rattle.std.proofs.Math.Seq.{take-append-add}
use Rattle.std.specs.List.{list_all}
use Rattle.std.proofs.lemmas.List.Folds.{list_all-append}
use Rattle.std.proofs.Math.Bool.{and-true, and-false}
use Rattle.tl_record.specs.Fields.{blank, is_blank, without_leading_blanks, without_trailing_blanks, trimmed, field, width_of}
use Rattle.tl_record.specs.Range.{Range}

all_blank_append : (bytes blanks : List ℕ) → list_all is_blank blanks ≡ true → list_all is_blank (bytes ++ blanks) ≡ list_all is_blank bytes
all_blank_append bytes blanks all = list_all-append is_blank bytes blanks ∙ rw all (and-true _)

nothing_left : (bytes : List ℕ) → list_all is_blank bytes ≡ true → without_trailing_blanks bytes ≡ []
nothing_left [] all = refl
nothing_left (byte ∷ bytes) all = rw all refl

-- blanks at the end don't matter
pub without_trailing_blanks-append : (bytes blanks : List ℕ) → list_all is_blank blanks ≡ true → without_trailing_blanks (bytes ++ blanks) ≡ without_trailing_blanks bytes
without_trailing_blanks-append [] blanks all = nothing_left blanks all
without_trailing_blanks-append (byte ∷ bytes) blanks all =
    rw (all_blank_append (byte ∷ bytes) blanks all, without_trailing_blanks-append bytes blanks all) refl

-- the last blank of several may be left out
pub one_blank_less : (bytes : List ℕ) (n : ℕ) → 0 < n → n ≤ length bytes → get_or bytes (n - 1) 0 ≡ blank
    → without_trailing_blanks (take (n - 1) bytes) ≡ without_trailing_blanks (take n bytes)
one_blank_less bytes n positive within is =
    let below : n - 1 < length bytes = omega arith in
    let next : n - 1 + 1 ≡ n = omega arith in
    let split : take n bytes ≡ take (n - 1) bytes ++ get_or bytes (n - 1) 0 ∷ [] = ap (λ k. take k bytes) (sym next) ∙ take_more bytes (n - 1) 0 below in
    sym (without_trailing_blanks-append (take (n - 1) bytes) (blank ∷ []) refl) ∙ ap (λ byte. without_trailing_blanks (take (n - 1) bytes ++ byte ∷ [])) (sym is) ∙ ap without_trailing_blanks (sym split)

not_all_blank : (bytes : List ℕ) (last : ℕ) → is_blank last ≡ false → list_all is_blank (bytes ++ last ∷ []) ≡ false
not_all_blank bytes last is = list_all-append is_blank bytes (last ∷ []) ∙ rw is (and-false (list_all is_blank bytes))

stays : (bytes : List ℕ) (last : ℕ) → is_blank last ≡ false → without_trailing_blanks (bytes ++ last ∷ []) ≡ bytes ++ last ∷ []
stays [] last is = rw is refl
stays (byte ∷ bytes) last is = rw (not_all_blank (byte ∷ bytes) last is, stays bytes last is) refl

-- where the last byte is no blank, nothing is left out
pub no_blank_less : (bytes : List ℕ) (n : ℕ) → 0 < n → n ≤ length bytes → is_blank (get_or bytes (n - 1) 0) ≡ false → without_trailing_blanks (take n bytes) ≡ take n bytes
no_blank_less bytes n positive within is =
    let below : n - 1 < length bytes = omega arith in
    let next : n - 1 + 1 ≡ n = omega arith in
    let split : take n bytes ≡ take (n - 1) bytes ++ get_or bytes (n - 1) 0 ∷ [] = ap (λ k. take k bytes) (sym next) ∙ take_more bytes (n - 1) 0 below in
    rw split (stays (take (n - 1) bytes) (get_or bytes (n - 1) 0) is)

all_blanks : (n : ℕ) → list_all is_blank (replicate n blank) ≡ true
all_blanks zero = refl
all_blanks (suc n) = all_blanks n

-- a line that ends inside a field reads as if blanks stood in the rest of it
no_more : (blanks : List ℕ) → list_all is_blank blanks ≡ true → without_leading_blanks blanks ≡ []
no_more [] all = refl
no_more (byte ∷ blanks) all = let parts = both_parts (is_blank byte) (list_all is_blank blanks) all in rw parts.0 (no_more blanks parts.1)

pub trimmed-append : (bytes blanks : List ℕ) → list_all is_blank blanks ≡ true → trimmed (bytes ++ blanks) ≡ trimmed bytes
trimmed-append [] blanks all = ap without_trailing_blanks (no_more blanks all)
trimmed-append (byte ∷ bytes) blanks all =
    elim (cases_Bool (is_blank byte)) [
      | inl is ↦ rw is (trimmed-append bytes blanks all)
      | inr is ↦ rw is (without_trailing_blanks-append (byte ∷ bytes) blanks all)
    ]

all_blank_take : (n m : ℕ) → list_all is_blank (take n (replicate m blank)) ≡ true
all_blank_take zero m = refl
all_blank_take (suc n) zero = refl
all_blank_take (suc n) (suc m) = all_blank_take n m

-- the bytes that a line has of a field spell what the field spells
pub trimmed-field : (line : List ℕ) (range : Range) → trimmed (field line range) ≡ trimmed (take (width_of range) (drop (range.first - 1) line))
trimmed-field line range =
    let bytes = drop (range.first - 1) line in
    let blanks = replicate (width_of range) blank in
    elim (cases_lt (length bytes) (width_of range)) [
      | inl short ↦
          let enough : width_of range ≡ length bytes + (width_of range - length bytes) = omega arith in
          let whole : take (width_of range) bytes ≡ bytes = take_all (width_of range) bytes (omega arith) in
          let parts : take (width_of range) (bytes ++ blanks) ≡ bytes ++ take (width_of range - length bytes) blanks = ap (λ n. take n (bytes ++ blanks)) enough ∙ take-append-add bytes blanks (width_of range - length bytes) in
          ap trimmed parts ∙ trimmed-append bytes (take (width_of range - length bytes) blanks) (all_blank_take (width_of range - length bytes) (width_of range)) ∙ ap trimmed (sym whole)
      | inr long ↦ ap trimmed (take-append-le (width_of range) bytes blanks long)
    ]

-- ---- blanks at the front, as a mask of lanes tells them

front_more : (byte : ℕ) (bytes : List ℕ) (n : ℕ) → is_blank byte ≡ true → list_all is_blank (take n bytes) ≡ true → list_all is_blank (take (1 + n) (byte ∷ bytes)) ≡ true
front_more byte bytes n is rest =
    let next : 1 + n ≡ suc n = omega arith in ap (λ k. list_all is_blank (take k (byte ∷ bytes))) next ∙ rw is rest

front_blank : (bytes : List ℕ) → list_all is_blank (take (prefix_len (λ x. not (not (is_blank x))) bytes) bytes) ≡ true
front_blank [] = refl
front_blank (byte ∷ bytes) =
    elim (cases_Bool (is_blank byte)) [
      | inl is ↦ rw is (front_more byte bytes _ is (front_blank bytes))
      | inr is ↦ rw is refl
    ]

-- as many lanes as no bit is set for, from the first
pub blanks_told : (bytes lanes : List ℕ) (others found : ℕ) → lanes ≡ take 16 bytes → length lanes ≡ 16 → others ≡ mask_l (map (λ x. not (is_blank x)) lanes)
    → found ≡ cond (eqb others 0) 16 (count_trailing_zeros 64 others) → (found ≤ 16) × (list_all is_blank (take found bytes) ≡ true)
blanks_told bytes lanes others found same long mask is =
    let p : ℕ → Bool = λ x. not (is_blank x) in
    let run : found ≡ prefix_len (λ x. not (p x)) lanes = is ∙ ap (λ n. cond (eqb n 0) 16 (count_trailing_zeros 64 n)) mask ∙ first_set_mask_l p lanes 16 long (omega arith) in
    let few : found ≤ 16 = omega (arith, run, long, prefix_len-le-length (λ x. not (p x)) lanes) in
    let front : take found bytes ≡ take found lanes = sym (ap (take found) same ∙ take-take found 16 bytes few) in (
      few,
      ap (list_all is_blank) front ∙ ap (λ n. list_all is_blank (take n lanes)) run ∙ front_blank lanes,
    )

-- a field that a line has whole, from a place on that isn't behind it
pub field_within : (line : List ℕ) (range : Range) (start at width : ℕ) → width_of range ≡ width → range.first - 1 ≡ start + at
    → at + width ≤ length (drop start line) → field line range ≡ take width (drop at (drop start line))
field_within line range start at width wide first within =
    let there : width_of range ≤ length (drop (range.first - 1) line) = omega (arith, within, wide, first, length-drop start line, length-drop (range.first - 1) line) in
    let back : drop (range.first - 1) line ≡ drop at (drop start line) = ap (λ n. drop n line) first ∙ sym (drop-drop at start line) in
    take-append-le (width_of range) (drop (range.first - 1) line) (replicate (width_of range) blank) there
    ∙ ap (λ (l : List ℕ). take (width_of range) l) back ∙ ap (λ n. take n (drop at (drop start line))) wide
