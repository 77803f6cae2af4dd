-- What the next line takes from the refusals that were to come.
use Rattle.std.proofs.Common.{◌≡◌, ℕ, ◌+◌, List, [], ◌∷◌, Option, None, Some, Ok, refl, sym, ap, ◌∙◌}
use Rattle.std.specs.List.{filter_map, cons_option, slice_get, find}
use Rattle.std.specs.Option.{option_map, option_and_then}
use Rattle.tl_record.specs.declared.layout.Layout.{Layout}
use Rattle.tl_record.specs.declared.record.Record.{Record}
use Rattle.tl_record.specs.declared.stop.Cause.{Cause}
use Rattle.tl_record.specs.declared.judge.Judgement.{Judgement}
use Rattle.tl_record.specs.declared.judge.Judgement.TheVariants.{PassedOver, Read, Refused}
use Rattle.tl_record.specs.declared.reader.NextLine.TheVariants as next
use Rattle.tl_record.specs.declared.take.Taken.TheVariants as taken
use Rattle.tl_record.specs.Lines.{raw_lines, first_line, after_first_line}
use Rattle.tl_record.specs.Judgement.{judgement}
use Rattle.tl_record.specs.Records.{refusal_of, is_refused}
use Rattle.tl_record.specs.Refusals.{refusals_of_lines, refused, cause_of}
use Rattle.tl_record.specs.Searching.{TakesFirst, TakesNext, GivesRefusal}
use Rattle.tl_record.specs.NextLine.{JudgesFirst, FindsNext}
use Rattle.tl_record.specs.Reader.{KeepsRefusals}
use Rattle.tl_record.proofs.RecordLemmas.{judgements-first}

-- the refusals of a text, where so many lines come before it
abbrev pub refused_in : Layout → ℕ → List ℕ → List (ℕ × Cause)
refused_in layout lines text = refusals_of_lines layout lines (raw_lines text)

-- a first line that is passed over, or that holds a record, is no refusal
first_passed : (layout : Layout) (lines : ℕ) (text : List ℕ) → JudgesFirst layout (lines + 1) text PassedOver
    → refused_in layout lines text ≡ refused_in layout (lines + 1) (after_first_line text)
first_passed layout lines text first = ap (filter_map refusal_of) (judgements-first layout lines text PassedOver first.some first.is)

first_read : (layout : Layout) (lines : ℕ) (text : List ℕ) (r : Record) → JudgesFirst layout (lines + 1) text (Read r)
    → refused_in layout lines text ≡ refused_in layout (lines + 1) (after_first_line text)
first_read layout lines text r first = ap (filter_map refusal_of) (judgements-first layout lines text (Read r) first.some first.is)

some_refused : (layout : Layout) (lines : ℕ) (new : Option (List ℕ)) (text rest : List ℕ) → refused_in layout lines text ≡ refused_in layout (lines + 1) rest → new ≡ Some rest
    → refused layout (lines + 1) new ≡ Some (refused_in layout lines text)
some_refused layout lines new text rest same is = ap (refused layout (lines + 1)) is ∙ ap (λ (l : List (ℕ × Cause)). Some l) (sym same)

pub refusals_passed : (layout : Layout) (lines : ℕ) (old new : Option (List ℕ)) → FindsNext layout (lines + 1) old new (next.Line PassedOver)
    → KeepsRefusals (refused layout lines old) (refused layout (lines + 1) new)
refusals_passed layout lines None new found = tt
refusals_passed layout lines (Some text) new found = some_refused layout lines new text (after_first_line text) (first_passed layout lines text found.first) found.rest

pub refusals_read : (layout : Layout) (lines : ℕ) (old new : Option (List ℕ)) (r : Record) → FindsNext layout (lines + 1) old new (next.Line (Read r))
    → KeepsRefusals (refused layout lines old) (refused layout (lines + 1) new)
refusals_read layout lines None new r found = tt
refusals_read layout lines (Some text) new r found = some_refused layout lines new text (after_first_line text) (first_read layout lines text r found.first) found.rest

-- a line that is refused is still to come
pub refusals_refused : (layout : Layout) (lines : ℕ) (old new : Option (List ℕ)) (cause : Cause) → FindsNext layout (lines + 1) old new (next.Line (Refused cause))
    → KeepsRefusals (refused layout lines old) (refused layout lines new)
refusals_refused layout lines None new cause found = tt
refusals_refused layout lines (Some text) new cause found = ap (refused layout lines) found.stays

-- the same of a last line, which nothing follows
none_left : (layout : Layout) (lines : ℕ) (text rest : List ℕ) → refused_in layout lines text ≡ refused_in layout (lines + 1) rest → rest ≡ []
    → (let none : List (ℕ × Cause) = [] in Some none ≡ Some (refused_in layout lines text))
none_left layout lines text rest same end = ap (λ (l : List (ℕ × Cause)). Some l) (sym (same ∙ ap (refused_in layout (lines + 1)) end))

pub last_refusals_passed : (layout : Layout) (lines : ℕ) (old new : Option (List ℕ)) → FindsNext layout (lines + 1) old new (next.Last PassedOver)
    → KeepsRefusals (refused layout lines old) (Some [])
last_refusals_passed layout lines None new found = tt
last_refusals_passed layout lines (Some text) new found = none_left layout lines text (after_first_line text) (first_passed layout lines text found.first) found.rest

pub last_refusals_read : (layout : Layout) (lines : ℕ) (old new : Option (List ℕ)) (r : Record) → FindsNext layout (lines + 1) old new (next.Last (Read r))
    → KeepsRefusals (refused layout lines old) (Some [])
last_refusals_read layout lines None new r found = tt
last_refusals_read layout lines (Some text) new r found = none_left layout lines text (after_first_line text) (first_read layout lines text r found.first) found.rest

pub last_refusals_refused : (layout : Layout) (lines : ℕ) (old new : Option (List ℕ)) (cause : Cause) → FindsNext layout (lines + 1) old new (next.Last (Refused cause))
    → KeepsRefusals (refused layout lines old) (refused layout lines new)
last_refusals_refused layout lines None new cause found = tt
last_refusals_refused layout lines (Some text) new cause found = ap (refused layout lines) found.stays

-- no line is left
pub end_refusals : (layout : Layout) (lines : ℕ) (old new : Option (List ℕ)) → FindsNext layout (lines + 1) old new next.End
    → KeepsRefusals (refused layout lines old) (Some [])
end_refusals layout lines None new found = tt
end_refusals layout lines (Some text) new found = ap (λ t. Some (refused_in layout lines t)) (sym found)

-- a failed read takes none
pub failed_refusals : (layout : Layout) (lines : ℕ) (old new : Option (List ℕ)) → FindsNext layout (lines + 1) old new next.Failed
    → KeepsRefusals (refused layout lines old) (refused layout lines new)
failed_refusals layout lines None new found = tt
failed_refusals layout lines (Some text) new found = ap (refused layout lines) found

pub KeepsRefusals-refl : (a : Option (List (ℕ × Cause))) → KeepsRefusals a a
KeepsRefusals-refl None = tt
KeepsRefusals-refl (Some r) = refl

pub KeepsRefusals-trans : (a b c : Option (List (ℕ × Cause))) → KeepsRefusals a b → KeepsRefusals b c → KeepsRefusals a c
KeepsRefusals-trans None b c p q = tt
KeepsRefusals-trans (Some r) b c p q = rw p at q

-- the first of the refusals is the first judgement that is one
pub first_refusal : (judged : List (ℕ × Judgement)) → slice_get (filter_map refusal_of judged) 0 ≡ option_and_then refusal_of (find is_refused judged)
first_refusal [] = refl
first_refusal ((n, PassedOver) ∷ rest) = first_refusal rest
first_refusal ((n, Read r) ∷ rest) = first_refusal rest
first_refusal ((n, Refused cause) ∷ rest) = refl

-- ---- what a search for refused lines gives

refusal_is : (number : ℕ) (j : Judgement) (cause : Option Cause) → cause ≡ cause_of j → refusal_of (number, j) ≡ option_map (λ c. (number, c)) cause
refusal_is number PassedOver cause is = rw is refl
refusal_is number (Read r) cause is = rw is refl
refusal_is number (Refused c) cause is = rw is refl

-- the first line of a text comes before the others, if it is refused
first_taken : (layout : Layout) (lines : ℕ) (text : List ℕ) (new : Option (List ℕ)) (cause : Option Cause) → TakesFirst layout (lines + 1) text new cause
    → refused_in layout lines text ≡ cons_option (option_map (λ c. (lines + 1, c)) cause) (refused_in layout (lines + 1) (after_first_line text))
first_taken layout lines text new cause takes =
    let j = judgement layout (lines + 1) (first_line text) in
    ap (filter_map refusal_of) (judgements-first layout lines text j takes.some refl)
    ∙ ap (λ first. cons_option first (refused_in layout (lines + 1) (after_first_line text))) (refusal_is (lines + 1) j cause takes.is)

-- a line that is refused gives the first refusal
pub gives_taken : (layout : Layout) (lines : ℕ) (old new : Option (List ℕ)) (cause : Cause) → TakesNext layout (lines + 1) old new (taken.Line (Some cause))
    → GivesRefusal (refused layout lines old) (refused layout (lines + 1) new) (Ok (Some (record { line = lines + 1; cause = cause })))
gives_taken layout lines None new cause takes = tt
gives_taken layout lines (Some text) new cause takes =
    (refused_in layout (lines + 1) (after_first_line text), ap (refused layout (lines + 1)) takes.rest, first_taken layout lines text new (Some cause) takes)

-- one that isn't refused gives none
pub keeps_taken : (layout : Layout) (lines : ℕ) (old new : Option (List ℕ)) → TakesNext layout (lines + 1) old new (taken.Line None)
    → KeepsRefusals (refused layout lines old) (refused layout (lines + 1) new)
keeps_taken layout lines None new takes = tt
keeps_taken layout lines (Some text) new takes = some_refused layout lines new text (after_first_line text) (first_taken layout lines text new None takes) takes.rest

pub end_taken : (layout : Layout) (lines : ℕ) (old new : Option (List ℕ)) (left : Option (List (ℕ × Cause))) → TakesNext layout (lines + 1) old new taken.End
    → GivesRefusal (refused layout lines old) left (Ok None)
end_taken layout lines None new left takes = tt
end_taken layout lines (Some text) new left takes = ap (refused_in layout lines) takes
