-- The text of records has these records.
use Rattle.std.proofs.Common.{◌≡◌, ℕ, zero, suc, ◌+◌, ◌-◌, ◌^◌, ◌<◌, ◌≤◌, ◌==◌, ◌&&◌, Bool, true, false, cond, List, [], ◌∷◌, ◌++◌, length, map, replicate, get_or, Option, Some, None, inl, refl, ap, ◌∙◌, arith, codes, decimal, append_assoc}
use Rattle.std.specs.List.{list_all, flat_map}
use Rattle.std.specs.Char.{is_ascii_digit}
use Rattle.std.specs.Prelude.{unsigned_abs, nat_le, nat_lt, pos, negsuc, ℤ}
use Rattle.std.proofs.lemmas.Bool.Decides.{nat_tests}
use Rattle.std.proofs.lemmas.List.Folds.{list_all-append}
use Rattle.std.proofs.lemmas.List.Sums.{sum_by-cons}
use Rattle.tl_geom.specs.declared.point.Point.{Point}
use Rattle.tl_record_key.specs.declared.key.PolyKey.{PolyKey}
use Rattle.tl_record.specs.declared.record.Record.{Record}
use Rattle.tl_record.specs.declared.record.Record.TheVariants.{Chain, Shape, Sides, PolyPoint, Landmark, AreaLink}
use Rattle.tl_record.specs.declared.judge.Judgement.TheVariants.{Read}
use Rattle.tl_record.specs.Layout.{tiger_2006}
use Rattle.tl_record.specs.Limits.{most_lines, most_line_bytes}
use Rattle.tl_record.specs.Lines.{line_feed, line_feeds, raw_lines, joined_lines, HoldNoLineFeed, content}
use Rattle.tl_record.specs.Fields.{is_cenid_byte}
use Rattle.tl_record.specs.Judgement.{judgement}
use Rattle.tl_record.specs.Records.{Records, records_of, records_judged, judgements}
use Rattle.tl_record.proofs.TextLemmas.{only_raw_lines}
use Rattle.tl_record.proofs.RecordLemmas.{records_read}
use Rattle.tigertopo_border.specs.Spelling.{filled, blanks, number_field, coordinate_field, point_fields, pair_fields, key_fields, side_fields, chain_line, shape_line, sides_line, point_line, record_line, records_text}
use Rattle.tigertopo_border.specs.Spellable.{IsPlaced, IsPair, ArePairs, IsKey, IsSideKey, IsSpellable}
use Rattle.tigertopo_border.proofs.FieldLemmas.{all_digits}
use Rattle.tigertopo_border.proofs.RecordLemmas.{content_read, few_bytes}
use Rattle.std.proofs.lemmas.Bool.{and_parts as both_parts}
use Rattle.tigertopo_faults.proofs.SegmentLemmas.{not_below as not_lt}

-- ---- no byte ends a line

-- the byte is no control character, so neither a line feed nor a carriage return
abbrev is_above : ℕ → Bool
is_above byte = nat_le 32 byte

abbrev AreAbove : List ℕ → Type 0
AreAbove bytes = list_all is_above bytes ≡ true

both : (xs ys : List ℕ) → AreAbove xs → AreAbove ys → AreAbove (xs ++ ys)
both xs ys a b = list_all-append is_above xs ys ∙ rw (a, b) refl

same_above : (n byte : ℕ) → is_above byte ≡ true → AreAbove (replicate n byte)
same_above zero byte is = refl
same_above (suc n) byte is = rw (is, same_above n byte is) refl

digit_above : (d : ℕ) → is_ascii_digit d ≡ true → is_above d ≡ true
digit_above d is = grind (arith, nat_tests)

digits_above : (ds : List ℕ) → list_all is_ascii_digit ds ≡ true → AreAbove ds
digits_above [] all = refl
digits_above (d ∷ ds) all = let parts = both_parts (is_ascii_digit d) (list_all is_ascii_digit ds) all in rw (digit_above d parts.0, digits_above ds parts.1) refl

cenid_above : (ds : List ℕ) → list_all is_cenid_byte ds ≡ true → AreAbove ds
cenid_above [] all = refl
cenid_above (d ∷ ds) all =
    let parts = both_parts (is_cenid_byte d) (list_all is_cenid_byte ds) all in
    let low = both_parts (nat_le 32 d) (nat_le d 126) parts.0 in
    rw (low.0, cenid_above ds parts.1) refl

filled_above : (byte width n : ℕ) → is_above byte ≡ true → n < 2 ^ 64 → AreAbove (filled byte width n)
filled_above byte width n is small = both (replicate (width - length (decimal n)) byte) (decimal n) (same_above (width - length (decimal n)) byte is) (digits_above (decimal n) (all_digits n small))

number_above : (width n : ℕ) → n < 2 ^ 64 → AreAbove (number_field width n)
number_above width n small = filled_above 32 width n refl small

blanks_above : (n : ℕ) → AreAbove (blanks n)
unfolding blanks
blanks_above n = same_above n 32 refl

coordinate_above : (digits : ℕ) (z : ℤ) → unsigned_abs z < 2 ^ 64 → AreAbove (coordinate_field digits z)
unfolding coordinate_field
coordinate_above digits (pos n) small = both (codes "+") (filled 48 digits n) refl (filled_above 48 digits n refl small)
coordinate_above digits (negsuc n) small = both (codes "-") (filled 48 digits (suc n)) refl (filled_above 48 digits (suc n) refl small)

point_above : (p : Point) → IsPlaced p → AreAbove (point_fields p)
point_above p placed =
    let x = placed.x in
    let y = placed.y in
    both (coordinate_field 9 p.x) (coordinate_field 8 p.y) (coordinate_above 9 p.x (omega (arith, x))) (coordinate_above 8 p.y (omega (arith, y)))

pair_above : (pair : Option Point) → IsPair pair → AreAbove (pair_fields pair)
pair_above None fine = refl
pair_above (Some p) fine = point_above p fine.0

pairs_above : (pairs : List (Option Point)) → ArePairs pairs → AreAbove (flat_map pair_fields pairs)
pairs_above [] fine = refl
pairs_above (pair ∷ pairs) fine = both (pair_fields pair) (flat_map pair_fields pairs) (pair_above pair fine.0) (pairs_above pairs fine.1)

key_above : (key : PolyKey) → IsKey key → AreAbove (key_fields key)
key_above key fine = let n = fine.number in both key.cenid (number_field 10 key.polyid) (cenid_above key.cenid fine.name.printed) (number_above 10 key.polyid (omega (arith, n)))

side_above : (side : Option PolyKey) → IsSideKey side → AreAbove (side_fields side)
side_above None fine = blanks_above 15
side_above (Some key) fine = key_above key fine

tlid_above : (n : ℕ) → n < 10 ^ 10 → AreAbove (number_field 10 n)
tlid_above n fits = number_above 10 n (omega (arith, fits))

pub line_above : (r : Record) → IsSpellable r → AreAbove (record_line r)
unfolding chain_line shape_line sides_line point_line
line_above (Chain tlid from to) fine =
    both (codes "1EDGE" ++ number_field 10 tlid ++ blanks 175 ++ point_fields from) (point_fields to)
    (both (codes "1EDGE" ++ number_field 10 tlid ++ blanks 175) (point_fields from)
    (both (codes "1EDGE" ++ number_field 10 tlid) (blanks 175) (both (codes "1EDGE") (number_field 10 tlid) refl (tlid_above tlid fine.0)) (blanks_above 175)) (point_above from fine.1)) (point_above to fine.2)
line_above (Shape tlid rtsq pairs) fine =
    let small = fine.1 in
    both (codes "2EDGE" ++ number_field 10 tlid ++ number_field 3 rtsq) (flat_map pair_fields pairs)
    (both (codes "2EDGE" ++ number_field 10 tlid) (number_field 3 rtsq) (both (codes "2EDGE") (number_field 10 tlid) refl (tlid_above tlid fine.0)) (number_above 3 rtsq (omega (arith, small)))) (pairs_above pairs fine.3)
line_above (Sides tlid start end left right) fine =
    both (codes "IEDGE" ++ number_field 10 tlid ++ blanks 25 ++ side_fields left) (side_fields right)
    (both (codes "IEDGE" ++ number_field 10 tlid ++ blanks 25) (side_fields left)
    (both (codes "IEDGE" ++ number_field 10 tlid) (blanks 25) (both (codes "IEDGE") (number_field 10 tlid) refl (tlid_above tlid fine.0)) (blanks_above 25)) (side_above left fine.3)) (side_above right fine.4)
line_above (PolyPoint key point) fine =
    both (codes "PEDGE" ++ blanks 5 ++ key_fields key) (point_fields point)
    (both (codes "PEDGE" ++ blanks 5) (key_fields key) (both (codes "PEDGE") (blanks 5) refl (blanks_above 5)) (key_above key fine.0)) (point_above point fine.1)
line_above (Landmark land point) fine = absurd fine
line_above (AreaLink key land) fine = absurd fine

other_byte : (byte : ℕ) → is_above byte ≡ true → ((byte == 10) ≡ false) × ((byte == 13) ≡ false)
other_byte byte is = (grind (arith, nat_tests), grind (arith, nat_tests))

no_feeds : (line : List ℕ) → AreAbove line → line_feeds line ≡ 0
no_feeds [] all = refl
no_feeds (byte ∷ line) all =
    let parts = both_parts (is_above byte) (list_all is_above line) all in
    let here : cond {A = ℕ} (byte == 10) 1 0 ≡ 0 = rw (other_byte byte parts.0).0 refl in
    let rest = no_feeds line parts.1 in
    omega (arith, here, rest, sum_by-cons (λ b. cond {A = ℕ} (b == 10) 1 0) byte line)

no_return : (line : List ℕ) (k : ℕ) → AreAbove line → (get_or line k 0 == 13) ≡ false
no_return [] k all = refl
no_return (byte ∷ line) zero all = (other_byte byte (both_parts (is_above byte) (list_all is_above line) all).0).1
no_return (byte ∷ line) (suc k) all = no_return line k (both_parts (is_above byte) (list_all is_above line) all).1

content_is : (line : List ℕ) → AreAbove line → content line ≡ line
content_is line all = rw (no_return line (length line - 1) all) refl

-- a line of the text is read as its record
line_read : (number : ℕ) (r : Record) → IsSpellable r → number ≤ most_lines → judgement tiger_2006 number (record_line r) ≡ Read r
line_read number r fine few =
    rw (not_lt most_lines number few, not_lt most_line_bytes (length (record_line r)) (few_bytes r fine), content_is (record_line r) (line_above r fine)) (content_read r fine)

-- ---- all lines

abbrev pub AreSpellable : List Record → Type 0
AreSpellable [] = Unit {0}
AreSpellable (r ∷ rs) = IsSpellable r × AreSpellable rs

lines_hold : (rs : List Record) → AreSpellable rs → HoldNoLineFeed (map record_line rs)
lines_hold [] fine = tt
lines_hold (r ∷ rs) fine = (no_feeds (record_line r) (line_above r fine.0), lines_hold rs fine.1)

text_joined : (rs : List Record) → records_text rs ≡ joined_lines (map record_line rs)
text_joined [] = refl
text_joined (r ∷ rs) = append_assoc (record_line r) (line_feed ∷ []) (records_text rs) ∙ ap (λ text. record_line r ++ line_feed ∷ text) (text_joined rs)

lines_of_text : (rs : List Record) → AreSpellable rs → raw_lines (records_text rs) ≡ map record_line rs
lines_of_text rs fine = only_raw_lines (map record_line rs) (records_text rs) (record { inside = lines_hold rs fine; whole = inl (text_joined rs) })

-- what was read
pub record IsRead (all : Records) (rs : List Record) : Type 0 where
  pub refusal : all.refusal ≡ None
  pub entries : map (λ entry. entry.1) all.entries ≡ rs
  pub skipped : all.skipped ≡ 0

lines_read : (before : ℕ) (rs : List Record) → AreSpellable rs → before + length rs ≤ most_lines → IsRead (records_judged (judgements tiger_2006 before (map record_line rs))) rs
lines_read before [] fine few = record { refusal = refl; entries = refl; skipped = refl }
lines_read before (r ∷ rs) fine few =
    let rest = lines_read (before + 1) rs fine.1 (omega (arith, few)) in
    let js = judgements tiger_2006 (before + 1) (map record_line rs) in
    let here : judgement tiger_2006 (before + 1) (record_line r) ≡ Read r = line_read (before + 1) r fine.0 (omega (arith, few)) in
    let all = records_read (before + 1) 0 r js in
    rw here (record {
      refusal = ap (λ (found : Records). found.refusal) all ∙ rest.refusal;
      entries = ap (λ (found : Records). map (λ entry. entry.1) found.entries) all ∙ ap (λ others. r ∷ others) rest.entries;
      skipped = let counted = ap (λ (found : Records). found.skipped) all in let none = rest.skipped in omega (arith, counted, none);
    })

-- the records of the text
pub text_read : (rs : List Record) → AreSpellable rs → length rs ≤ most_lines → IsRead (records_of tiger_2006 (records_text rs)) rs
text_read rs fine few = rw (lines_of_text rs fine) (lines_read 0 rs fine (omega (arith, few)))
