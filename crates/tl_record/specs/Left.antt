-- What is left of a text without its refused lines.
use Rattle.std.specs.Prelude.{ℕ, ◌+◌, ◌==◌, false, if◌then◌else◌, List, [], ◌∷◌, map, length, None}
use Rattle.std.specs.List.{filter_map, count_by}
use Rattle.tl_record.specs.declared.layout.Layout.{Layout}
use Rattle.tl_record.specs.declared.refusal.Refusal.{Refusal}
use Rattle.tl_record.specs.declared.judge.Judgement.{Judgement}
use Rattle.tl_record.specs.declared.judge.Judgement.TheVariants.{PassedOver, Read, Refused}
use Rattle.tl_record.specs.Lines.{raw_lines, joined_lines}
use Rattle.tl_record.specs.Judgement.{judgement}
use Rattle.tl_record.specs.Records.{Records, judgements, records_judged, entry_of, is_passed_over}
use Rattle.tl_record.specs.Refusals.{refusals_of}

-- these lines, each with one of these numbers, which rise, empty; so many lines come before them
abbrev pub lines_left : ℕ → List ℕ → List (List ℕ) → List (List ℕ)
lines_left passed [] lines = lines
lines_left passed (number ∷ rest) [] = []
lines_left passed (number ∷ rest) (line ∷ lines) =
    if number == passed + 1 then [] ∷ lines_left (passed + 1) rest lines else line ∷ lines_left (passed + 1) (number ∷ rest) lines

-- what is left of a text without the bytes of the lines with these numbers, which rise: each line ends in a line feed, so that each other
-- line keeps its number. So many lines come before the text
abbrev pub left_from : ℕ → List ℕ → List ℕ → List ℕ
left_from passed [] text = text
left_from passed (number ∷ rest) text = joined_lines (lines_left passed (number ∷ rest) (raw_lines text))

-- the numbers of refused lines
abbrev pub numbers_of : List Refusal → List ℕ
numbers_of refusals = map (λ (refusal : Refusal). refusal.line) refusals

-- what is left of a text without each line that is refused
abbrev pub left_of : Layout → List ℕ → List ℕ
left_of layout text = left_from 0 (map (λ refusal. refusal.0) (refusals_of layout text)) text

-- what a line means where its bytes are taken away if it is refused
abbrev pub judged_left : Layout → ℕ × Judgement → ℕ × Judgement
judged_left layout (number, PassedOver) = (number, PassedOver)
judged_left layout (number, Read r) = (number, Read r)
judged_left layout (number, Refused cause) = (number, judgement layout number [])

-- the records of these lines without the bytes of each that is refused, where so many lines come before them
abbrev pub records_left : Layout → ℕ → List (List ℕ) → Records
records_left layout before lines = records_judged (map (judged_left layout) (judgements layout before lines))

-- all records of a text, those behind refused lines too, and how many of its lines hold none
abbrev pub accepted_records : Layout → List ℕ → Records
accepted_records layout text = record {
  entries = filter_map entry_of (judgements layout 0 (raw_lines text));
  refusal = None;
  skipped = count_by is_passed_over (judgements layout 0 (raw_lines text)) + length (refusals_of layout text);
  complete = false;
}
