-- In which of several texts a line of them as one text stands.
use Rattle.std.proofs.Common.{◌≡◌, ℕ, zero, suc, ◌+◌, ◌-◌, ◌≤◌, ◌<◌, nat_le, true, false, List, [], ◌∷◌, ◌++◌, Option, None, Some, option_map, length, map, take, drop, get_or, drop-cons, slice_get, add-one, zero-add, refl, sym, ap, ◌∙◌, arith, inl, inr}
use Rattle.std.specs.Prelude.{sum}
use Rattle.std.proofs.lemmas.Bool.{cases_Bool, leb-true, leb-false, le-leb, lt-leb}
use Rattle.std.proofs.lemmas.List.{drop_all}
use Rattle.std.proofs.lemmas.List.Sums.{sum_by-append}
use Rattle.memchr.specs.Find.{is_byte}
use Rattle.tl_record.specs.Lines.{line_feed, raw_lines, with_first_byte, first_line, after_first_line}
use Rattle.tl_record.proofs.LineLemmas.{raw_lines-first}
use Rattle.tigertopo_files.specs.Joining.{closed, joined}
use Rattle.tigertopo_faults.specs.Places.LinePlaces.{line_at, line_count, lines_of_all, place_of, text_on, StandsAt}

-- a byte stands before the first of some lines
byte_before : (byte : ℕ) (first : List ℕ) (lines rest : List (List ℕ)) (all : List (List ℕ)) → all ≡ first ∷ lines
    → with_first_byte byte (all ++ rest) ≡ with_first_byte byte all ++ rest
byte_before byte first lines rest all is = rw is refl

-- a text that isn't empty, with its last line closed, has its own lines, and what follows has those behind them
closed_more : (byte : ℕ) (text rest : List ℕ) → raw_lines (closed false (byte ∷ text) ++ rest) ≡ raw_lines (byte ∷ text) ++ raw_lines rest
closed_more byte [] rest =
    elim (cases_Bool (is_byte line_feed byte)) [
      | inl is ↦ rw is refl
      | inr is ↦ rw is refl
    ]
closed_more byte (next ∷ text) rest =
    let first = raw_lines-first (next ∷ text) (λ none. cc) in
    elim (cases_Bool (is_byte line_feed byte)) [
      | inl is ↦ rw is (ap (λ (l : List (List ℕ)). [] ∷ l) (closed_more next text rest))
      | inr is ↦ rw is (ap (with_first_byte byte) (closed_more next text rest)
          ∙ byte_before byte (first_line (next ∷ text)) (raw_lines (after_first_line (next ∷ text))) (raw_lines rest) (raw_lines (next ∷ text)) first)
    ]

closed_lines : (text rest : List ℕ) → raw_lines (closed false text ++ rest) ≡ raw_lines text ++ raw_lines rest
closed_lines [] rest = refl
closed_lines (byte ∷ text) rest = closed_more byte text rest

-- the lines of several texts as one are those of all texts
pub joined_lines_are : (texts : List (List ℕ)) → raw_lines (joined texts) ≡ lines_of_all texts
joined_lines_are [] = refl
joined_lines_are (text ∷ texts) = closed_lines text (joined texts) ∙ ap (λ (l : List (List ℕ)). raw_lines text ++ l) (joined_lines_are texts)

module _ {A : Type 0} where
  got_first : (xs ys : List A) (i : ℕ) → i < length xs → slice_get (xs ++ ys) i ≡ slice_get xs i
  got_first [] ys i within = absurd (omega arith)
  got_first (x ∷ xs) ys zero within = refl
  got_first (x ∷ xs) ys (suc i) within = got_first xs ys i (omega arith)

  got_later : (xs ys : List A) (i j : ℕ) → i ≡ length xs + j → slice_get (xs ++ ys) i ≡ slice_get ys j
  got_later [] ys i j is = ap (slice_get ys) (omega arith)
  got_later (x ∷ xs) ys zero j is = absurd (omega arith)
  got_later (x ∷ xs) ys (suc i) j is = got_later xs ys i j (omega arith)

-- there is such an item
got_some : (xs : List (List ℕ)) (i : ℕ) → i < length xs → (x : List ℕ) × (slice_get xs i ≡ Some x)
got_some [] i within = absurd (omega arith)
got_some (x ∷ xs) zero within = (x, refl)
got_some (x ∷ xs) (suc i) within = got_some xs i (omega arith)

-- a line among the first lines, and one among those behind them
line_first : (xs ys : List (List ℕ)) (number : ℕ) → 1 ≤ number → number ≤ length xs → (line : List ℕ) × (line_at number xs ≡ Some line) × (line_at number (xs ++ ys) ≡ Some line)
line_first xs ys zero some within = absurd (omega arith)
line_first xs ys (suc i) some within =
    let found = got_some xs i (omega arith) in (found.0, found.1, got_first xs ys i (omega arith) ∙ found.1)

line_later : (xs ys : List (List ℕ)) (number : ℕ) → length xs < number → line_at number (xs ++ ys) ≡ line_at (number - length xs) ys
line_later xs ys zero behind = absurd (omega arith)
line_later xs ys (suc i) behind =
    let less : suc i - length xs ≡ suc (i - length xs) = omega arith in
    rw less (got_later xs ys i (i - length xs) (omega arith))

sum_before : (count : ℕ) (counts : List ℕ) (n : ℕ) → sum (take (n + 1) (count ∷ counts)) ≡ count + sum (take n counts)
sum_before count counts n = rw add-one (sum_by-append (λ x. x) (count ∷ []) (take n counts) ∙ ap (λ (k : ℕ). k + sum (take n counts)) (zero-add count))

-- what stands in the texts behind the first
stands_later : (text : List ℕ) (texts : List (List ℕ)) (number : ℕ) (place : Option (ℕ × ℕ)) → line_count text < number
    → StandsAt texts (number - line_count text) place → StandsAt (text ∷ texts) number (option_map text_on place)
stands_later text texts number None behind stands =
    ap (line_at number) (closed_lines text (joined texts)) ∙ line_later (raw_lines text) (raw_lines (joined texts)) number behind ∙ stands
stands_later text texts number (Some place) behind stands = (
  stands.0,
  stands.1,
  let next : place.0 + 1 ≡ suc place.0 = omega arith in rw next stands.2,
  stands.3,
  ap (line_at number) (closed_lines text (joined texts)) ∙ line_later (raw_lines text) (raw_lines (joined texts)) number behind ∙ stands.4,
  let all = sum_before (line_count text) (map line_count texts) place.0 in omega (arith, stands.5, all, behind),
)

pub line_stands : (texts : List (List ℕ)) (number : ℕ) → 1 ≤ number → StandsAt texts number (place_of (map line_count texts) number)
line_stands [] zero some = absurd (omega arith)
line_stands [] (suc i) some = refl
line_stands (text ∷ texts) number some =
    elim (cases_Bool (nat_le number (line_count text))) [
      | inl is ↦
          let found = line_first (raw_lines text) (raw_lines (joined texts)) number some (leb-true number (line_count text) is) in
          rw is (text, found.0, refl, found.1, ap (line_at number) (closed_lines text (joined texts)) ∙ found.2, zero-add number)
      | inr is ↦
          let behind = leb-false number (line_count text) is in
          rw is (stands_later text texts number (place_of (map line_count texts) (number - line_count text)) behind (line_stands texts (number - line_count text) (omega (arith, behind))))
    ]

-- a place so many texts on
abbrev pub texts_on : ℕ → ℕ × ℕ → ℕ × ℕ
texts_on n place = (place.0 + n, place.1)

-- what was looked for in the first texts is looked for in those behind them
abbrev pub GoesOn : List ℕ → ℕ → ℕ → ℕ → Type 0
GoesOn counts number text line = place_of counts number ≡ option_map (texts_on text) (place_of (drop text counts) line)

same_point : (place : Option (ℕ × ℕ)) → place ≡ option_map (texts_on 0) place
same_point None = refl
same_point (Some place) = ap (λ (n : ℕ). Some (n, place.1)) (omega arith)

pub goes_from_first : (counts : List ℕ) (number : ℕ) → GoesOn counts number 0 number
goes_from_first counts number = same_point (place_of counts number)

later_place : (place : Option (ℕ × ℕ)) (text : ℕ) → option_map (texts_on text) (option_map text_on place) ≡ option_map (texts_on (text + 1)) place
later_place None text = refl
later_place (Some place) text = ap (λ (n : ℕ). Some (n, place.1)) (omega arith)

-- the line lies behind one text more
pub goes_on : (counts : List ℕ) (number text line : ℕ) → text < length counts → get_or counts text 0 < line → GoesOn counts number text line
    → GoesOn counts number (text + 1) (line - get_or counts text 0)
goes_on counts number text line within behind before =
    let split : drop text counts ≡ get_or counts text 0 ∷ drop (text + 1) counts = rw (add-one, drop-cons counts text 0) refl in
    let no : nat_le line (get_or counts text 0) ≡ false = lt-leb line (get_or counts text 0) behind in
    before ∙ ap (λ (l : List ℕ). option_map (texts_on text) (place_of l line)) split
    ∙ rw no (later_place (place_of (drop (text + 1) counts) (line - get_or counts text 0)) text)

-- the line lies in this one
pub stands_here : (counts : List ℕ) (number text line : ℕ) → text < length counts → line ≤ get_or counts text 0 → GoesOn counts number text line
    → Some (text, line) ≡ place_of counts number
stands_here counts number text line within here before =
    let split : drop text counts ≡ get_or counts text 0 ∷ drop (text + 1) counts = rw (add-one, drop-cons counts text 0) refl in
    let yes : nat_le line (get_or counts text 0) ≡ true = le-leb line (get_or counts text 0) here in
    sym (before ∙ ap (λ (l : List ℕ). option_map (texts_on text) (place_of l line)) split ∙ rw yes (ap (λ (n : ℕ). Some (n, line)) (zero-add text)))

-- it lies in none
pub stands_nowhere : (counts : List ℕ) (number text line : ℕ) → length counts ≤ text → GoesOn counts number text line → None ≡ place_of counts number
stands_nowhere counts number text line past before =
    sym (before ∙ ap (λ (l : List ℕ). option_map (texts_on text) (place_of l line)) (drop_all text counts past))
