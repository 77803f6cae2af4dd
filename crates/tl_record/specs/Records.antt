-- The records of a text.
use Rattle.std.specs.Prelude.{ℕ, ◌+◌, Bool, true, false, List, map, not, Option, Some, None, if◌then◌else◌}
use Rattle.std.specs.List.{enumerate_from, filter_map, take_while, find, count_by}
use Rattle.std.specs.Option.{option_and_then}
use Rattle.tl_record.specs.declared.layout.Layout.{Layout}
use Rattle.tl_record.specs.declared.stop.Cause.{Cause}
use Rattle.tl_record.specs.declared.record.Record.{Record}
use Rattle.tl_record.specs.declared.judge.Judgement.{Judgement}
use Rattle.tl_record.specs.declared.judge.Judgement.TheVariants.{PassedOver, Read, Refused}
use Rattle.tl_record.specs.Lines.{raw_lines}
use Rattle.tl_record.specs.Judgement.{judgement}
use Rattle.tl_record.specs.Joining.{joined}

-- what reading a text gives
pub record Records : Type 0 where
  -- the records before the first refused line, with the numbers of their lines
  pub entries : List (ℕ × Record)
  -- the first refused line's number, and why it is refused
  pub refusal : Option (ℕ × Cause)
  -- how many lines before the first refused one are passed over
  pub skipped : ℕ
  -- whether at least one record of each of the types 1, I and P is asked for
  pub complete : Bool

-- each line's number and what it means; so many lines come before these
abbrev pub judgements : Layout → ℕ → List (List ℕ) → List (ℕ × Judgement)
judgements layout before lines = map (λ line. (line.0, judgement layout line.0 line.1)) (enumerate_from (before + 1) lines)

abbrev pub is_refused : ℕ × Judgement → Bool
is_refused (number, PassedOver) = false
is_refused (number, Read r) = false
is_refused (number, Refused cause) = true

abbrev pub is_passed_over : ℕ × Judgement → Bool
is_passed_over (number, PassedOver) = true
is_passed_over (number, Read r) = false
is_passed_over (number, Refused cause) = false

abbrev pub entry_of : ℕ × Judgement → Option (ℕ × Record)
entry_of (number, PassedOver) = None
entry_of (number, Read r) = Some (number, r)
entry_of (number, Refused cause) = None

abbrev pub refusal_of : ℕ × Judgement → Option (ℕ × Cause)
refusal_of (number, PassedOver) = None
refusal_of (number, Read r) = None
refusal_of (number, Refused cause) = Some (number, cause)

-- the judgements before the first refused line, or all of them
abbrev pub accepted : List (ℕ × Judgement) → List (ℕ × Judgement)
accepted judged = take_while (λ j. not (is_refused j)) judged

abbrev pub records_judged : List (ℕ × Judgement) → Records
records_judged judged = record {
  entries = filter_map entry_of (accepted judged);
  refusal = option_and_then refusal_of (find is_refused judged);
  skipped = count_by is_passed_over (accepted judged);
  complete = false;
}

-- the records of these lines, where so many lines come before them
abbrev pub records_of_lines : Layout → ℕ → List (List ℕ) → Records
records_of_lines layout before lines = records_judged (judgements layout before lines)

-- the records of a text's lines, each as it stands
abbrev pub lines_read : Layout → List ℕ → Records
lines_read layout text = records_of_lines layout 0 (raw_lines text)

-- these records, with each chain that is told twice once, where chains are joined
abbrev pub joined_where : Bool → Records → Records
joined_where joins all = record {
  entries = if joins then joined all.entries else all.entries;
  refusal = all.refusal;
  skipped = all.skipped;
  complete = all.complete;
}

-- these records, of which so is asked
abbrev pub asked_where : Bool → Records → Records
asked_where complete all = record all { complete = complete }

-- the records of a text
abbrev pub records_of : Layout → List ℕ → Records
records_of layout text = asked_where layout.complete (joined_where layout.joins (lines_read layout text))
