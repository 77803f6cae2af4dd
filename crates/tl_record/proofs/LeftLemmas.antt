-- What is left of a text without its refused lines.
use Rattle.std.proofs.Common.{◌≡◌, ℕ, ◌+◌, ◌<◌, ◌≤◌, ◌==◌, true, false, List, [], ◌∷◌, map, length, Some, None, refl, ap, ◌∙◌, arith, inl, inr}
use Rattle.std.specs.Prelude.{nat_lt}
use Rattle.std.specs.List.{filter_map, count_by}
use Rattle.std.proofs.lemmas.Bool.{cases_Bool, cases_eq, eqb-true, eq-eqb, lt-ltb, ltb-true}
use Rattle.tl_record.specs.declared.layout.Layout.{Layout}
use Rattle.tl_record.specs.declared.stop.Cause.{Cause}
use Rattle.tl_record.specs.declared.stop.Cause.TheVariants.{TooManyLines}
use Rattle.tl_record.specs.declared.judge.Judgement.{Judgement}
use Rattle.tl_record.specs.declared.judge.Judgement.TheVariants.{PassedOver, Read, Refused}
use Rattle.tl_record.specs.Limits.{most_lines}
use Rattle.tl_record.specs.Lines.{raw_lines, joined_lines, HoldNoLineFeed}
use Rattle.tl_record.specs.Judgement.{judgement}
use Rattle.tl_record.specs.Records.{Records, judgements, records_judged, entry_of, is_passed_over, lines_read}
use Rattle.tl_record.specs.Refusals.{refusals_of_lines}
use Rattle.tl_record.specs.Left.{lines_left, left_from, left_of, judged_left, records_left, accepted_records}
use Rattle.tl_record.specs.Reader.{with_skipped, with_entry}
use Rattle.tl_record.proofs.RecordLemmas.{same_records, count-cons, records_passed, records_read, records_refused}
use Rattle.tl_record.proofs.TextLemmas.{raw_lines_are, only_raw_lines}

-- ---- the lines of what is left

left_hold_none : (before : ℕ) (numbers : List ℕ) (lines : List (List ℕ)) → HoldNoLineFeed lines → HoldNoLineFeed (lines_left before numbers lines)
left_hold_none before [] lines none = none
left_hold_none before (number ∷ rest) [] none = tt
left_hold_none before (number ∷ rest) (line ∷ lines) none =
    elim (cases_Bool (number == before + 1)) [
      | inl here ↦ rw here (refl, left_hold_none (before + 1) rest lines none.1)
      | inr there ↦ rw there (none.0, left_hold_none (before + 1) (number ∷ rest) lines none.1)
    ]

-- each line of what is left is a line of the text, or empty
pub lines_of_left : (before : ℕ) (numbers : List ℕ) (text : List ℕ) → raw_lines (left_from before numbers text) ≡ lines_left before numbers (raw_lines text)
lines_of_left before [] text = refl
lines_of_left before (number ∷ rest) text =
    let lines = lines_left before (number ∷ rest) (raw_lines text) in
    only_raw_lines lines (joined_lines lines) record { inside = left_hold_none before (number ∷ rest) (raw_lines text) (raw_lines_are text).inside; whole = inl refl }

-- ---- their judgements

abbrev numbers_in : Layout → ℕ → List (List ℕ) → List ℕ
numbers_in layout before lines = map (λ (refusal : ℕ × Cause). refusal.0) (refusals_of_lines layout before lines)

-- the numbers that come first are greater than those before
first_above : (layout : Layout) (before : ℕ) (lines : List (List ℕ)) (number : ℕ) (rest : List ℕ) → numbers_in layout before lines ≡ number ∷ rest → before < number
first_above layout before [] number rest is = absurd (let wrong = is in cc)
first_above layout before (line ∷ lines) number rest is = go (judgement layout (before + 1) line) refl (first_above layout (before + 1) lines number rest)
  where
    go : (j : Judgement) → judgement layout (before + 1) line ≡ j → (numbers_in layout (before + 1) lines ≡ number ∷ rest → before + 1 < number) → before < number
    go PassedOver same later = let above : before + 1 < number = later (rw same at is) in omega (arith, above)
    go (Read r) same later = let above : before + 1 < number = later (rw same at is) in omega (arith, above)
    go (Refused cause) same later =
        let known = rw same at is in
        let here : before + 1 ≡ number = let wrong = known in cc in
        omega (arith, here)

-- a line that isn't among the numbers stays
stays_first : (before : ℕ) (numbers : List ℕ) (line : List ℕ) (lines : List (List ℕ)) → ((number : ℕ) (rest : List ℕ) → numbers ≡ number ∷ rest → before + 1 < number)
    → lines_left before numbers (line ∷ lines) ≡ line ∷ lines_left (before + 1) numbers lines
stays_first before [] line lines above = refl
stays_first before (number ∷ rest) line lines above =
    let greater = above number rest refl in
    elim (cases_Bool (number == before + 1)) [
      | inl here ↦ let same : number ≡ before + 1 = eqb-true _ _ here in absurd (omega (arith, greater, same))
      | inr there ↦ rw there refl
    ]

-- what the lines of what is left mean
pub judgements_left : (layout : Layout) (before : ℕ) (lines : List (List ℕ))
    → judgements layout before (lines_left before (numbers_in layout before lines) lines) ≡ map (judged_left layout) (judgements layout before lines)
judgements_left layout before [] = go (numbers_in layout before [])
  where
    go : (numbers : List ℕ) → judgements layout before (lines_left before numbers []) ≡ []
    go [] = refl
    go (number ∷ rest) = refl
judgements_left layout before (line ∷ lines) = go (judgement layout (before + 1) line) refl
    (ap (judgements layout before) (stays_first before (numbers_in layout (before + 1) lines) line lines (first_above layout (before + 1) lines))
    ∙ ap (λ (js : List (ℕ × Judgement)). (before + 1, judgement layout (before + 1) line) ∷ js) (judgements_left layout (before + 1) lines))
    (judgements_left layout (before + 1) lines)
  where
    go : (j : Judgement) → judgement layout (before + 1) line ≡ j
        → judgements layout before (lines_left before (numbers_in layout (before + 1) lines) (line ∷ lines))
        ≡ (before + 1, judgement layout (before + 1) line) ∷ map (judged_left layout) (judgements layout (before + 1) lines)
        → judgements layout (before + 1) (lines_left (before + 1) (numbers_in layout (before + 1) lines) lines) ≡ map (judged_left layout) (judgements layout (before + 1) lines)
        → judgements layout before (lines_left before (numbers_in layout before (line ∷ lines)) (line ∷ lines)) ≡ map (judged_left layout) (judgements layout before (line ∷ lines))
    go PassedOver same stays more = rw same (rw same at stays)
    go (Read r) same stays more = rw same (rw same at stays)
    go (Refused cause) same stays more =
        let here : (before + 1 == before + 1) ≡ true = eq-eqb (before + 1) (before + 1) refl in
        rw same (rw here (ap (λ (js : List (ℕ × Judgement)). (before + 1, judgement layout (before + 1) []) ∷ js) more))

-- the records of what is left
pub read_of_left : (layout : Layout) (text : List ℕ) → lines_read layout (left_of layout text) ≡ records_left layout 0 (raw_lines text)
read_of_left layout text =
    ap (λ lines. records_judged (judgements layout 0 lines)) (lines_of_left 0 (numbers_in layout 0 (raw_lines text)) text)
    ∙ ap records_judged (judgements_left layout 0 (raw_lines text))

-- ---- an empty line

pub empty_passed : (layout : Layout) (number : ℕ) → number ≤ most_lines → judgement layout number [] ≡ PassedOver
empty_passed layout number few =
    elim (cases_Bool (nat_lt most_lines number)) [
      | inl beyond ↦ absurd (let many = ltb-true most_lines number beyond in omega (arith, few, many))
      | inr within ↦ rw within refl
    ]

-- a line beyond the greatest number is refused whatever it holds
too_many : (layout : Layout) (number : ℕ) (line : List ℕ) → most_lines < number → judgement layout number line ≡ Refused TooManyLines
too_many layout number line many = rw (lt-ltb most_lines number many) refl

-- ---- all that is accepted

-- the records of these lines, those behind refused lines too, where so many lines were passed over before
abbrev all_accepted : Layout → ℕ → ℕ → List (List ℕ) → Records
all_accepted layout before skipped lines = record {
  entries = filter_map entry_of (judgements layout before lines);
  refusal = None;
  skipped = skipped + (count_by is_passed_over (judgements layout before lines) + length (refusals_of_lines layout before lines));
  complete = false;
}

accepted_left : (layout : Layout) (before skipped : ℕ) (lines : List (List ℕ)) → before + length lines ≤ most_lines
    → with_skipped skipped (records_left layout before lines) ≡ all_accepted layout before skipped lines
accepted_left layout before skipped [] few = same_records _ _ _ _ _ _ refl refl (omega arith)
accepted_left layout before skipped (line ∷ lines) few = go (judgement layout (before + 1) line) refl
    (accepted_left layout (before + 1) skipped lines (omega (arith, few))) (accepted_left layout (before + 1) (skipped + 1) lines (omega (arith, few)))
    (empty_passed layout (before + 1) (omega (arith, few)))
  where
    js : List (ℕ × Judgement)
    js = judgements layout (before + 1) lines

    go : (j : Judgement) → judgement layout (before + 1) line ≡ j
        → with_skipped skipped (records_left layout (before + 1) lines) ≡ all_accepted layout (before + 1) skipped lines
        → with_skipped (skipped + 1) (records_left layout (before + 1) lines) ≡ all_accepted layout (before + 1) (skipped + 1) lines
        → judgement layout (before + 1) [] ≡ PassedOver
        → with_skipped skipped (records_left layout before (line ∷ lines)) ≡ all_accepted layout before skipped (line ∷ lines)
    go PassedOver same more one empty =
        let counted = count-cons (before + 1, PassedOver) js in
        rw same (records_passed (before + 1) skipped (map (judged_left layout) js) ∙ one ∙ same_records _ _ _ _ _ _ refl refl (omega (arith, counted)))
    go (Read r) same more one empty =
        let counted = count-cons (before + 1, Read r) js in
        rw same (records_read (before + 1) skipped r (map (judged_left layout) js) ∙ ap (with_entry (before + 1, r)) more ∙ same_records _ _ _ _ _ _ refl refl (omega (arith, counted)))
    go (Refused cause) same more one empty =
        let counted = count-cons (before + 1, Refused cause) js in
        rw (same, empty) (records_passed (before + 1) skipped (map (judged_left layout) js) ∙ one ∙ same_records _ _ _ _ _ _ refl refl (omega (arith, counted)))

pub few_left : (layout : Layout) (text : List ℕ) → length (raw_lines text) ≤ most_lines → lines_read layout (left_of layout text) ≡ accepted_records layout text
few_left layout text few =
    let all = accepted_left layout 0 0 (raw_lines text) (omega (arith, few)) in
    let skipped = ap (λ (r : Records). r.skipped) all in
    read_of_left layout text ∙ same_records _ _ _ _ _ _ (ap (λ (r : Records). r.entries) all) (ap (λ (r : Records). r.refusal) all) (omega (arith, skipped))

-- ---- too many lines

many_refused : (layout : Layout) (before : ℕ) (lines : List (List ℕ)) → before ≤ most_lines → most_lines < before + length lines
    → (records_left layout before lines).refusal ≡ Some (most_lines + 1, TooManyLines)
many_refused layout before [] low many = absurd (omega (arith, low, many))
many_refused layout before (line ∷ lines) low many =
    elim (cases_eq before most_lines) [
      | inl here ↦
          let beyond : most_lines < before + 1 = omega (arith, here) in
          let number : before + 1 ≡ most_lines + 1 = ap (λ n. n + 1) here in
          let full = too_many layout (before + 1) line beyond in
          let empty = too_many layout (before + 1) [] beyond in
          rw (full, empty) (ap (λ (r : Records). r.refusal) (records_refused (before + 1) 0 TooManyLines (map (judged_left layout) js)) ∙ ap (λ n. Some (n, TooManyLines)) number)
      | inr other ↦ go (judgement layout (before + 1) line) refl (many_refused layout (before + 1) lines (omega (arith, low, other)) (omega (arith, many))) (omega (arith, low, other))
    ]
  where
    js : List (ℕ × Judgement)
    js = judgements layout (before + 1) lines

    go : (j : Judgement) → judgement layout (before + 1) line ≡ j → (records_left layout (before + 1) lines).refusal ≡ Some (most_lines + 1, TooManyLines) → before + 1 ≤ most_lines
        → (records_left layout before (line ∷ lines)).refusal ≡ Some (most_lines + 1, TooManyLines)
    go PassedOver same more fits = rw same (ap (λ (r : Records). r.refusal) (records_passed (before + 1) 0 (map (judged_left layout) js)) ∙ more)
    go (Read r) same more fits = rw same (ap (λ (r : Records). r.refusal) (records_read (before + 1) 0 r (map (judged_left layout) js)) ∙ more)
    go (Refused cause) same more fits =
        let empty = empty_passed layout (before + 1) fits in
        rw (same, empty) (ap (λ (r : Records). r.refusal) (records_passed (before + 1) 0 (map (judged_left layout) js)) ∙ more)

pub many_left : (layout : Layout) (text : List ℕ) → most_lines < length (raw_lines text) → (lines_read layout (left_of layout text)).refusal ≡ Some (most_lines + 1, TooManyLines)
many_left layout text many =
    ap (λ (r : Records). r.refusal) (read_of_left layout text) ∙ many_refused layout 0 (raw_lines text) (omega arith) (omega (arith, many))
