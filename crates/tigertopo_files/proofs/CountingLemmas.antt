-- How many lines a text has.
use Rattle.std.proofs.Common.{◌≡◌, ℕ, ◌+◌, ◌-◌, ◌^◌, ◌≤◌, min, Bool, true, false, ◌==◌, List, [], ◌∷◌, ◌++◌, length, cond, zero-add, refl, sym, ap, ◌∙◌, arith, inl, inr}
use Rattle.std.proofs.lemmas.Bool.{cases_Bool}
use Rattle.std.proofs.lemmas.List.Sums.{count_by-le-length}
use Rattle.tl_record.specs.Lines.{line_feed, line_feeds, raw_lines, with_first_byte, first_line, after_first_line}
use Rattle.tl_record.proofs.LineLemmas.{feeds-append, other_counts, raw_lines-first}
use Rattle.tigertopo_files.specs.Counting.{open_lines, lines_with, IsNew}
use Rattle.tigertopo_files.specs.Joining.{leaves_open}
use Rattle.tigertopo_files.specs.declared.counting.LineCount.{LineCount}
use Rattle.tigertopo_files.proofs.JoiningLemmas.{leaves_open-append}

feed_counts : (byte : ℕ) (text : List ℕ) → byte == line_feed ≡ true → line_feeds (byte ∷ text) ≡ 1 + line_feeds text
feed_counts byte text is =
    feeds-append (byte ∷ []) text ∙ ap (λ n. n + line_feeds text) (zero-add (cond (byte == line_feed) 1 0)) ∙ rw is refl

-- a byte stands before the first of some lines
more_lines : (byte : ℕ) (first : List ℕ) (lines all : List (List ℕ)) → all ≡ first ∷ lines → length (with_first_byte byte all) ≡ length all
more_lines byte first lines all is = rw is refl

-- a byte that is no line feed begins a line, or stands in the next one
other_lines : (byte : ℕ) (text : List ℕ) → length (raw_lines text) ≡ line_feeds text + open_lines (leaves_open false text)
    → length (with_first_byte byte (raw_lines text)) ≡ line_feeds text + open_lines (leaves_open true text)
other_lines byte [] counted = refl
other_lines byte (next ∷ text) counted =
    more_lines byte (first_line (next ∷ text)) (raw_lines (after_first_line (next ∷ text))) (raw_lines (next ∷ text)) (raw_lines-first (next ∷ text) (λ none. cc)) ∙ counted

sum_of : (feeds : ℕ) {more one other : ℕ} → more ≡ 1 + feeds → one ≡ other → 1 + (feeds + other) ≡ more + one
sum_of feeds more same = omega (arith, more, same)

same_sum : {feeds more one other : ℕ} → more ≡ feeds → one ≡ other → feeds + other ≡ more + one
same_sum more same = omega (arith, more, same)

-- a text has as many lines as line feeds, and one more where its last line is open
pub lines_counted : (text : List ℕ) → length (raw_lines text) ≡ line_feeds text + open_lines (leaves_open false text)
lines_counted [] = refl
lines_counted (byte ∷ text) =
    let rest = lines_counted text in
    elim (cases_Bool (byte == line_feed)) [
      | inl is ↦
          let lines : length (raw_lines (byte ∷ text)) ≡ 1 + length (raw_lines text) = rw is (omega arith) in
          let opens : open_lines (leaves_open false (byte ∷ text)) ≡ open_lines (leaves_open false text) = rw is refl in
          lines ∙ ap (λ n. 1 + n) rest ∙ sum_of (line_feeds text) (feed_counts byte text is) opens
      | inr is ↦
          let lines : length (raw_lines (byte ∷ text)) ≡ length (with_first_byte byte (raw_lines text)) = rw is refl in
          let opens : open_lines (leaves_open false (byte ∷ text)) ≡ open_lines (leaves_open true text) = rw is refl in
          lines ∙ other_lines byte text rest ∙ same_sum (other_counts byte text is) opens
    ]

-- the count of no byte
pub new_count : IsNew (record { line_feeds = 0; is_open = false })
new_count = λ text. let lines = lines_counted text in omega (arith, lines)

-- bytes behind those that were counted
pub with_bytes : (bytes text : List ℕ) (count : LineCount) (feeds : ℕ) (is_open : Bool) → feeds ≡ min (count.line_feeds + line_feeds bytes) (2 ^ 64 - 1) → is_open ≡ leaves_open count.is_open bytes
    → lines_with (record { line_feeds = feeds; is_open = is_open }) text ≡ lines_with count (bytes ++ text)
with_bytes bytes text count feeds is_open more opens =
    let all = feeds-append bytes text in
    let last : open_lines (leaves_open is_open text) ≡ open_lines (leaves_open count.is_open (bytes ++ text)) =
    ap (λ b. open_lines (leaves_open b text)) opens ∙ ap open_lines (sym (leaves_open-append count.is_open bytes text)) in
    omega (arith, all, more, last)

-- a text has few lines: one for each byte, and one more
few_open : (is_open : Bool) → open_lines is_open ≤ 1
few_open true = omega arith
few_open false = omega arith

pub few_lines : (text : List ℕ) → length (raw_lines text) ≤ length text + 1
few_lines text =
    let lines = lines_counted text in
    let feeds = count_by-le-length (λ byte. byte == line_feed) text in
    let open_one = few_open (leaves_open false text) in
    omega (arith, lines, feeds, open_one)
