-- A line of a number that stands whole at the front of some bytes.
use Rattle.std.proofs.Common.{rules, ◌≡◌, ℕ, zero, suc, ◌+◌, ◌-◌, ◌*◌, ◌^◌, ◌<◌, ◌≤◌, true, List, [], ◌∷◌, ◌++◌, length, take, drop, get_or, take_all, take-add, add-one, length-drop, length-append, Option, None, Some, refl, sym, ap, ◌∙◌, arith}
use Rattle.std.proofs.Common as std
use Rattle.std.specs.Char.{is_ascii_digit}
use Rattle.std.specs.List.{list_all}
use Rattle.std.specs.Io.KnownBytes.{Keeps, Consumes, prepend_known}
use Rattle.std.proofs.lemmas.Fmt.{decimal-digits_value, decimal_digit}
use Rattle.std.proofs.lemmas.List.{length-take-le, get_or-take, take-append-drop, take-take}
use Rattle.std.proofs.Math.Seq.{take-suc, take-append_seam, get_or-append_seam}
use Rattle.std.proofs.lemmas.Str.Parse.{IsNumeralModel, numerals_by_weight}
use Rattle.tl_record.specs.Lines.{joined_lines}
use Rattle.tl_record.specs.Fields.{decimal}
use Rattle.tl_record.proofs.Digits.{all_digits_more, decimal_more}
use Rattle.tl_cert.specs.Text.{number, numbered_line}
use Rattle.tl_cert.specs.Keeping.Words.{StandsFirst, AreDigits}
use Rattle.tl_cert.proofs.LineLemmas.{line_taken}
use Rattle.tl_cert.proofs.WriteLemmas.{numbers_text, numbers_joins}

-- digits, as records spell them too, are those of their value
spelling : IsNumeralModel (λ ds. list_all is_ascii_digit ds ≡ true) decimal
spelling = numerals_by_weight (λ ds. list_all is_ascii_digit ds ≡ true) (search rules) decimal (search rules)

pub digits_of_value : (bytes : List ℕ) (value : ℕ) → 0 < length bytes → (get_or bytes 0 0 ≡ 48 → length bytes ≡ 1) → list_all is_ascii_digit bytes ≡ true → decimal bytes ≡ value
    → value < 2 ^ 64 → bytes ≡ std.decimal value
digits_of_value bytes value some lead all worth small =
    sym (ap std.decimal (sym worth) ∙ decimal-digits_value spelling bytes all some lead (omega (arith, worth, small)))

-- digits among the first eight bytes
pub short_spelt : (bytes eight : List ℕ) (len value : ℕ) → eight ≡ take 8 bytes → 0 < len → len < 8 → len ≤ length bytes → (get_or bytes 0 0 ≡ 48 → len ≤ 1)
    → list_all is_ascii_digit (take len eight) ≡ true → decimal (take len eight) ≡ value → value < 2 ^ 64 → take len bytes ≡ std.decimal value
short_spelt bytes eight len value is some few within lead all worth small =
    let same : take len eight ≡ take len bytes = ap (take len) is ∙ take-take len 8 bytes (omega arith) in
    let size = length-take-le len bytes within in
    let first = get_or-take len bytes 0 0 some in
    digits_of_value (take len bytes) value (omega (arith, size, some)) (λ e. omega (arith, size, some, lead (sym first ∙ e))) (rw (← same) all) (rw (← same) worth) small

-- digits that begin with no 0 are a number's above 0
above_zero : (value : ℕ) (bytes : List ℕ) → bytes ≡ std.decimal value → (get_or bytes 0 0 ≡ 48 → ⊥) → 0 < value
above_zero zero bytes is none = absurd (none (ap (λ (l : List ℕ). get_or l 0 0) (is ∙ decimal_digit 0 (omega arith))))
above_zero (suc value) bytes is none = omega arith

-- eight digits
pub eight_digits : (bytes eight : List ℕ) (value : ℕ) → 9 ≤ length bytes → eight ≡ take 8 bytes → list_all is_ascii_digit eight ≡ true → value ≡ decimal eight
    → AreDigits bytes 8 value
eight_digits bytes eight value long is all worth = record {
  within = omega (arith, long);
  digits = ap (list_all is_ascii_digit) (sym is) ∙ all;
  worth = ap decimal (sym is) ∙ sym worth;
}

-- a digit behind eight others
pub nine_digits : (bytes eight : List ℕ) (value digit : ℕ) → 9 ≤ length bytes → eight ≡ take 8 bytes → list_all is_ascii_digit eight ≡ true → value ≡ decimal eight
    → is_ascii_digit (get_or bytes 8 0) ≡ true → digit ≡ get_or bytes 8 0 - 48 → AreDigits bytes 9 (value * 10 + digit)
nine_digits bytes eight value digit long is all worth here told = record {
  within = long;
  digits = all_digits_more bytes 8 long (ap (list_all is_ascii_digit) (sym is) ∙ all) here;
  worth = decimal_more bytes 8 long ∙ rw (← is, ← worth, ← told) refl;
}

pub long_value : (bytes : List ℕ) (len value : ℕ) → AreDigits bytes len value → 8 ≤ len → (get_or bytes 0 0 ≡ 48 → ⊥) → value < 10 ^ 9 → take len bytes ≡ std.decimal value
long_value bytes len value are long none small =
    let size = length-take-le len bytes are.within in
    let first = get_or-take len bytes 0 0 (omega (arith, long)) in
    digits_of_value (take len bytes) value (omega (arith, size, long)) (λ e. absurd (none (sym first ∙ e))) are.digits are.worth (omega (arith, small))

pub long_spelt : (bytes others : List ℕ) (len value : ℕ) → AreDigits bytes len value → 8 ≤ len → (get_or bytes 0 0 ≡ 48 → ⊥) → value < 10 ^ 9 → drop len bytes ≡ others
    → (bytes ≡ std.decimal value ++ others) × (0 < value)
long_spelt bytes others len value are long none small rest =
    let first = get_or-take len bytes 0 0 (omega (arith, long)) in
    let same = long_value bytes len value are long none small in
    (sym (take-append-drop len bytes) ∙ rw (same, rest) refl, above_zero value (take len bytes) same (λ e. none (sym first ∙ e)))

-- a digit between a space and a line feed
pub small_front : (bytes : List ℕ) → 3 ≤ length bytes → get_or bytes 0 0 ≡ 32 → get_or bytes 2 0 ≡ 10 → 48 ≤ get_or bytes 1 0 → get_or bytes 1 0 ≤ 56
    → bytes ≡ number (get_or bytes 1 0 - 48) ++ 10 ∷ take (length bytes - 3) (drop 3 bytes)
small_front [] long space feed low high = absurd (omega (arith, long))
small_front (a ∷ []) long space feed low high = absurd (omega (arith, long))
small_front (a ∷ b ∷ []) long space feed low high = absurd (omega (arith, long))
small_front (a ∷ b ∷ c ∷ rest) long space feed low high =
    let behind : take (length (a ∷ b ∷ c ∷ rest) - 3) rest ≡ rest = take_all (length (a ∷ b ∷ c ∷ rest) - 3) rest (omega arith) in
    let digit : std.decimal (b - 48) ≡ b ∷ [] = decimal_digit (b - 48) (omega (arith, low, high)) ∙ ap (λ (d : ℕ). d ∷ []) (omega (arith, low)) in
    rw (space, feed, digit, behind) refl

-- a digit between a letter with its space and a line feed
pub digit_front : (bytes : List ℕ) (letter : ℕ) → 4 ≤ length bytes → get_or bytes 0 0 ≡ letter → get_or bytes 1 0 ≡ 32 → get_or bytes 3 0 ≡ 10 → 48 ≤ get_or bytes 2 0 → get_or bytes 2 0 ≤ 57
    → StandsFirst bytes (numbered_line (letter ∷ []) (get_or bytes 2 0 - 48)) 3
digit_front [] letter long first space feed low high = absurd (omega (arith, long))
digit_front (a ∷ []) letter long first space feed low high = absurd (omega (arith, long))
digit_front (a ∷ b ∷ []) letter long first space feed low high = absurd (omega (arith, long))
digit_front (a ∷ b ∷ c ∷ []) letter long first space feed low high = absurd (omega (arith, long))
digit_front (a ∷ b ∷ c ∷ d ∷ rest) letter long first space feed low high =
    let digit : std.decimal (c - 48) ≡ c ∷ [] = decimal_digit (c - 48) (omega (arith, low, high)) ∙ ap (λ (n : ℕ). n ∷ []) (omega (arith, low)) in
    record {
      within = omega arith;
      feed = feed;
      spelt = rw (first, space, digit) refl;
    }

-- bytes are their first and those behind it
pub first_of : (first : ℕ) (bytes : List ℕ) → 0 < length bytes → get_or bytes 0 0 ≡ first → bytes ≡ first ∷ take (length bytes - 1) (drop 1 bytes)
first_of first [] some is = absurd (omega (arith, some))
first_of first (x ∷ others) some is = ap (λ b. b ∷ others) is ∙ ap (λ l. first ∷ l) (sym (take_all (length (x ∷ others) - 1) others (omega arith)))

-- what stands before a line feed is a line that stands first
pub stands_first : (bytes line rest : List ℕ) (len : ℕ) → bytes ≡ line ++ 10 ∷ rest → len ≡ length bytes - length rest - 1 → StandsFirst bytes line len
stands_first bytes line rest len is told =
    let size : len ≡ length line = omega (arith, told, ap length is, length-append line (10 ∷ rest)) in
    rw (size, is) record {
      within = omega (arith, length-append line (10 ∷ rest));
      feed = get_or-append_seam line 10 rest 0;
      spelt = take-append_seam line (10 ∷ rest);
    }

-- behind a letter and a space
pub behind_letter : (bytes word digits : List ℕ) (letter n len : ℕ) → bytes ≡ letter ∷ word → word ≡ 32 ∷ digits → StandsFirst digits (std.decimal n) len
    → StandsFirst bytes (numbered_line (letter ∷ []) n) (len + 2)
behind_letter bytes word digits letter n len is space first =
    let whole : bytes ≡ letter ∷ 32 ∷ digits = is ∙ ap (λ (l : List ℕ). letter ∷ l) space in
    let two : len + 2 ≡ suc (suc len) = omega arith in
    rw (whole, two) record {
      within = omega (arith, first.within);
      feed = first.feed;
      spelt = ap (λ (l : List ℕ). letter ∷ 32 ∷ l) first.spelt;
    }

-- the line is taken off
kept : (known : Option (List ℕ)) → Keeps known known
kept None = tt
kept (Some bytes) = refl

pub front_taken : (left : Option (List ℕ)) (bytes after line : List ℕ) (len : ℕ) → StandsFirst bytes line len → after ≡ drop (len + 1) bytes
    → Consumes (prepend_known bytes left) (prepend_known after left) (joined_lines (line ∷ []))
front_taken left bytes after line len first rest = line_taken (prepend_known bytes left) left bytes after line len (kept (prepend_known bytes left)) first.within first.feed rest first.spelt

-- a line of a number more behind those that stand first
pub line_behind : (letter : ℕ) (bytes xs ys : List ℕ) (at len n : ℕ) → at ≤ length bytes → take at bytes ≡ numbers_text (letter ∷ []) xs
    → StandsFirst (take (length bytes - at) (drop at bytes)) (numbered_line (letter ∷ []) n) len → ys ≡ xs ++ n ∷ []
    → take (at + (len + 1)) bytes ≡ numbers_text (letter ∷ []) ys
line_behind letter bytes xs ys at len n within spelt first is =
    let others = drop at bytes in
    let rest : take (length bytes - at) others ≡ others = take_all (length bytes - at) others (omega (arith, length-drop at bytes)) in
    let here : len < length others = omega (arith, first.within, ap length rest) in
    let feed : get_or others len 0 ≡ 10 = ap (λ (l : List ℕ). get_or l len 0) (sym rest) ∙ first.feed in
    let line : take len others ≡ numbered_line (letter ∷ []) n = ap (take len) (sym rest) ∙ first.spelt in
    take-add at (len + 1) bytes
    ∙ ap (λ (l : List ℕ). l ++ take (len + 1) others) spelt
    ∙ ap (λ (l : List ℕ). numbers_text (letter ∷ []) xs ++ l) (rw (add-one, take-suc others len 0 here, feed, line) refl)
    ∙ sym (numbers_joins (letter ∷ []) xs (n ∷ []))
    ∙ ap (numbers_text (letter ∷ [])) (sym is)

pub line_within : (bytes : List ℕ) (line : List ℕ) (at len : ℕ) → at ≤ length bytes → StandsFirst (take (length bytes - at) (drop at bytes)) line len → at + (len + 1) ≤ length bytes
line_within bytes line at len within first =
    let rest = take_all (length bytes - at) (drop at bytes) (omega (arith, length-drop at bytes)) in
    omega (arith, first.within, ap length rest, length-drop at bytes, within)
