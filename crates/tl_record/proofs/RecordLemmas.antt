-- What one more judgement in front makes of the records of a text.
use Rattle.std.proofs.Common.{◌≡◌, ◌≢◌, ℕ, ◌+◌, ◌∷◌, List, [], Bool, false, not, cond, Option, refl, sym, ap, ◌∙◌, arith}
use Rattle.std.specs.List.{filter_map, count_by}
use Rattle.std.proofs.lemmas.List.Sums.{take_while-cons, sum_by-append}
use Rattle.tl_record.specs.declared.layout.Layout.{Layout}
use Rattle.tl_record.specs.declared.record.Record.{Record}
use Rattle.tl_record.specs.declared.stop.Cause.{Cause}
use Rattle.tl_record.specs.declared.judge.Judgement.{Judgement}
use Rattle.tl_record.specs.declared.judge.Judgement.TheVariants.{PassedOver, Read, Refused}
use Rattle.tl_record.specs.Lines.{raw_lines, first_line, after_first_line}
use Rattle.tl_record.specs.Judgement.{judgement}
use Rattle.tl_record.specs.Records.{Records, judgements, is_refused, is_passed_over, entry_of, accepted, records_judged, records_of_lines}
use Rattle.tl_record.specs.Reader.{with_skipped, with_entry, nothing_after, refusal_after}
use Rattle.tl_record.proofs.LineLemmas.{raw_lines-first}

-- records with equal parts are equal
pub same_records : (e f : List (ℕ × Record)) (r s : Option (ℕ × Cause)) (m n : ℕ) → e ≡ f → r ≡ s → m ≡ n
    → (let left : Records = record { entries = e; refusal = r; skipped = m; complete = false } in left ≡ record { entries = f; refusal = s; skipped = n; complete = false })
same_records e f r s m n p q k = cc

not_refused : ℕ × Judgement → Bool
not_refused j = not (is_refused j)

accepted-passed : (n : ℕ) (js : List (ℕ × Judgement)) → accepted ((n, PassedOver) ∷ js) ≡ (n, PassedOver) ∷ accepted js
accepted-passed n js = take_while-cons (λ j. not (is_refused j)) (n, PassedOver) js

accepted-read : (n : ℕ) (r : Record) (js : List (ℕ × Judgement)) → accepted ((n, Read r) ∷ js) ≡ (n, Read r) ∷ accepted js
accepted-read n r js = take_while-cons (λ j. not (is_refused j)) (n, Read r) js

accepted-refused : (n : ℕ) (c : Cause) (js : List (ℕ × Judgement)) → accepted ((n, Refused c) ∷ js) ≡ []
accepted-refused n c js = take_while-cons (λ j. not (is_refused j)) (n, Refused c) js

pub count-cons : (j : ℕ × Judgement) (js : List (ℕ × Judgement)) → count_by is_passed_over (j ∷ js) ≡ cond (is_passed_over j) 1 0 + count_by is_passed_over js
count-cons j js = sum_by-append (λ x. cond (is_passed_over x) 1 0) (j ∷ []) js ∙ ap (λ n. n + count_by is_passed_over js) (omega arith)

-- a line that is passed over adds to their count alone
pub records_passed : (n before : ℕ) (js : List (ℕ × Judgement)) → with_skipped before (records_judged ((n, PassedOver) ∷ js)) ≡ with_skipped (before + 1) (records_judged js)
records_passed n before js =
    let counted = count-cons (n, PassedOver) (accepted js) in
    same_records _ _ _ _ _ _ (ap (filter_map entry_of) (accepted-passed n js)) refl (ap (λ l. before + count_by is_passed_over l) (accepted-passed n js) ∙ omega (arith, counted))

-- a record stands before the others
pub records_read : (n before : ℕ) (r : Record) (js : List (ℕ × Judgement)) → with_skipped before (records_judged ((n, Read r) ∷ js)) ≡ with_entry (n, r) (with_skipped before (records_judged js))
records_read n before r js =
    let counted = count-cons (n, Read r) (accepted js) in
    same_records _ _ _ _ _ _ (ap (filter_map entry_of) (accepted-read n r js)) refl (ap (λ l. before + count_by is_passed_over l) (accepted-read n r js) ∙ omega (arith, counted))

-- nothing stands behind a refusal
pub records_refused : (n before : ℕ) (c : Cause) (js : List (ℕ × Judgement)) → with_skipped before (records_judged ((n, Refused c) ∷ js)) ≡ refusal_after before n c
records_refused n before c js =
    same_records _ _ _ _ _ _ (ap (filter_map entry_of) (accepted-refused n c js)) refl (ap (λ l. before + count_by is_passed_over l) (accepted-refused n c js) ∙ omega arith)

-- no line is left
pub records_none : (layout : Layout) (lines before : ℕ) → with_skipped before (records_of_lines layout lines (raw_lines [])) ≡ nothing_after before
records_none layout lines before = same_records _ _ _ _ _ _ refl refl (omega arith)

-- the judgement of the first line comes first
pub judgements-first : (layout : Layout) (lines : ℕ) (text : List ℕ) (j : Judgement) → text ≢ [] → j ≡ judgement layout (lines + 1) (first_line text)
    → judgements layout lines (raw_lines text) ≡ (lines + 1, j) ∷ judgements layout (lines + 1) (raw_lines (after_first_line text))
judgements-first layout lines text j some is =
    ap (judgements layout lines) (raw_lines-first text some)
    ∙ ap (λ (first : Judgement). (lines + 1, first) ∷ judgements layout (lines + 1) (raw_lines (after_first_line text))) (sym is)
