-- What a record reader keeps, and what it still has to give.
use Rattle.std.specs.Prelude.{◌≡◌, ◌⊎◌, ℕ, ◌+◌, false, List, [], ◌∷◌, Option, None, Some, Result, Ok, Err, ⊤}
use Rattle.std.specs.Option.{option_map}
use Rattle.std.specs.Io.KnownBytes.{prepend_known}
use Rattle.tl_record.specs.declared.record.Record.{Record}
use Rattle.tl_record.specs.declared.layout.Layout.{Layout}
use Rattle.tl_record.specs.declared.judge.Judgement.{Judgement}
use Rattle.tl_record.specs.declared.judge.Judgement.TheVariants.{PassedOver, Read}
use Rattle.tl_record.specs.declared.judge.Judgement.TheVariants as judged
use Rattle.tl_record.specs.declared.stop.Cause.{Cause}
use Rattle.tl_record.specs.declared.stop.ReadStop.{ReadStop}
use Rattle.tl_record.specs.declared.stop.ReadStop.TheVariants.{Refused, Device}
use Rattle.tl_record.specs.declared.reader.Standing.{Standing}
use Rattle.tl_record.specs.declared.reader.Standing.TheVariants.{Reading, Ended, Stopped}
use Rattle.tl_record.specs.declared.reader.RecordReader.{RecordReader}
use Rattle.tl_record.specs.Failures.{one_more}
use Rattle.tl_record.specs.Lines.{raw_lines, line_feeds}
use Rattle.tl_record.specs.Records.{Records, records_of_lines}
use Rattle.tl_record.specs.Refusals.{refused}
use Rattle.tl_record.specs.declared.reader.NextLine.{NextLine}
use Rattle.tl_record.specs.NextLine.{FindsNext, JudgesSome, PendingWhole, KeepsFront, CountsNext}

abbrev pub source_of : {R : Type 0} → RecordReader R → R
source_of reader = reader.source

abbrev pub layout_of : {R : Type 0} → RecordReader R → Layout
layout_of reader = reader.layout

-- how many lines were accepted so far, and how many of them were passed over
abbrev pub lines_of : {R : Type 0} → RecordReader R → ℕ
lines_of reader = reader.lines

abbrev pub skipped_of : {R : Type 0} → RecordReader R → ℕ
skipped_of reader = reader.skipped

-- how many lines were judged so far, where the reader stopped at a refused line
abbrev pub judged_of : {R : Type 0} → RecordReader R → ℕ
judged_of reader = reader.judged

-- whether the reader still reads, or which answer it repeats
abbrev pub standing_of : {R : Type 0} → RecordReader R → Standing
standing_of reader = reader.standing

-- the bytes that were fetched and not judged yet
abbrev pub pending_of : {R : Type 0} → RecordReader R → List ℕ
pending_of reader = reader.buffer

-- the bytes that weren't judged yet, fetched or not, where those that the source has left are known
abbrev pub unjudged : {R : Type 0} → (R → Option (List ℕ)) → RecordReader R → Option (List ℕ)
unjudged remaining reader = prepend_known (pending_of reader) (remaining (source_of reader))

-- the same records, where so many lines were passed over before
abbrev pub with_skipped : ℕ → Records → Records
with_skipped before records = record { entries = records.entries; refusal = records.refusal; skipped = before + records.skipped; complete = false }

-- what the bytes that weren't judged give, where they're known: entries, a refusal, and how many lines will have been
-- passed over in all
abbrev pub to_come : {R : Type 0} → (R → Option (List ℕ)) → RecordReader R → Option Records
to_come remaining reader =
    option_map (λ text. with_skipped (skipped_of reader) (records_of_lines (layout_of reader) (lines_of reader) (raw_lines text))) (unjudged remaining reader)

-- how many lines come before the bytes that weren't judged: those that were accepted, and where the reader stopped at a
-- refused line, all that were judged
abbrev pub lines_before : Standing → ℕ → ℕ → ℕ
lines_before Reading lines judged = lines
lines_before Ended lines judged = lines
lines_before (Stopped (Refused line cause)) lines judged = judged
lines_before (Stopped Device) lines judged = lines

-- nothing is left at the end of the text
abbrev pub left_standing : Standing → Option (List (ℕ × Cause)) → Option (List (ℕ × Cause))
left_standing Reading coming = coming
left_standing Ended coming = Some []
left_standing (Stopped stop) coming = coming

-- All lines that are refused from where the reader is, where they are known. Among them is the one at which it stopped,
-- unless that was given as a refusal.
abbrev pub refusals_to_come : {R : Type 0} → (R → Option (List ℕ)) → RecordReader R → Option (List (ℕ × Cause))
refusals_to_come remaining reader =
    left_standing (standing_of reader) (refused (layout_of reader) (lines_before (standing_of reader) (lines_of reader) (judged_of reader)) (unjudged remaining reader))

-- nothing comes any more
abbrev pub nothing_after : ℕ → Records
nothing_after skipped = record { entries = []; refusal = None; skipped = skipped; complete = false }

-- the refusal comes next, and nothing after it
abbrev pub refusal_after : ℕ → ℕ → Cause → Records
refusal_after skipped line cause = record { entries = []; refusal = Some (line, cause); skipped = skipped; complete = false }

abbrev pub outcome_standing : Standing → Option Records → ℕ → Option Records
outcome_standing Reading coming skipped = coming
outcome_standing Ended coming skipped = Some (nothing_after skipped)
outcome_standing (Stopped (Refused line cause)) coming skipped = Some (refusal_after skipped line cause)
outcome_standing (Stopped Device) coming skipped = None

-- what the reader still has to give, where that is known
abbrev pub outcome : {R : Type 0} → (R → Option (List ℕ)) → RecordReader R → Option Records
outcome remaining reader = outcome_standing (standing_of reader) (to_come remaining reader) (skipped_of reader)

abbrev pub Answer : Type 0
Answer = Result (Option (ℕ × Record)) ReadStop

-- an answer, of the line's number and what stands in the record's place
abbrev pub answer_with : Result (Option ℕ) ReadStop → Record → Answer
answer_with (Ok (Some number)) r = Ok (Some (number, r))
answer_with (Ok None) r = Ok None
answer_with (Err stop) r = Err stop

-- where no record is answered, its place stays as it was
abbrev pub KeepsUnanswered : Result (Option ℕ) ReadStop → Record → Record → Type 0
KeepsUnanswered (Ok (Some number)) old new = ⊤
KeepsUnanswered (Ok None) old new = new ≡ old
KeepsUnanswered (Err stop) old new = new ≡ old

-- these records, with one more entry before them
abbrev pub with_entry : ℕ × Record → Records → Records
with_entry entry rest = record { entries = entry ∷ rest.entries; refusal = rest.refusal; skipped = rest.skipped; complete = false }

-- What an answer takes from what was to come, where that was known: the first entry, and the rest comes after it; the
-- end; or the refusal. A failed read leaves what was to come.
abbrev pub Gives : Option Records → Option Records → ℕ → Answer → Type 0
Gives None new skipped answer = ⊤
Gives (Some old) new skipped (Ok (Some entry)) = (rest : Records) × (new ≡ Some rest) × (old ≡ with_entry entry rest)
Gives (Some old) new skipped (Ok None) = old ≡ nothing_after skipped
Gives (Some old) new skipped (Err (Refused line cause)) = old ≡ refusal_after skipped line cause
Gives (Some old) new skipped (Err Device) = ⊤

-- A reader that ended or stopped stays as it is, and answers the same again.
abbrev pub Repeats : {R : Type 0} → Standing → RecordReader R → RecordReader R → Answer → Type 0
Repeats Reading old new answer = ⊤
Repeats Ended old new answer = (answer ≡ Ok None) × (new ≡ old)
Repeats (Stopped stop) old new answer = (answer ≡ Err stop) × (new ≡ old)

-- After an entry the reader reads on, or is at the end. After the end or a stop, that is the answer from then on.
abbrev pub Settles : Standing → Answer → Type 0
Settles standing (Ok (Some entry)) = (standing ≡ Reading) ⊎ (standing ≡ Ended)
Settles standing (Ok None) = standing ≡ Ended
Settles standing (Err stop) = standing ≡ Stopped stop

-- An entry bears the number of the last line that was accepted, and a refusal that of the line after it; each other
-- line up to there was passed over.
abbrev pub CountsAnswer : ℕ → ℕ → ℕ → ℕ → Answer → Type 0
CountsAnswer old_lines old_skipped lines skipped (Ok (Some entry)) = (entry.0 ≡ lines) × (skipped + old_lines + 1 ≡ old_skipped + lines)
CountsAnswer old_lines old_skipped lines skipped (Ok None) = skipped + old_lines ≡ old_skipped + lines
CountsAnswer old_lines old_skipped lines skipped (Err (Refused line cause)) = (line ≡ lines + 1) × (skipped + old_lines ≡ old_skipped + lines)
CountsAnswer old_lines old_skipped lines skipped (Err Device) = skipped + old_lines ≡ old_skipped + lines

-- The source counts a failed read, and `Device` comes of nothing else.
abbrev pub TellsFailure : Standing → ℕ → ℕ → Answer → Type 0
TellsFailure Reading old new (Ok entry) = new ≡ old
TellsFailure Reading old new (Err (Refused line cause)) = new ≡ old
TellsFailure Reading old new (Err Device) = new ≡ one_more old
TellsFailure Ended old new answer = new ≡ old
TellsFailure (Stopped stop) old new answer = new ≡ old

-- known records stay as they were
abbrev pub KeepsRecords : Option Records → Option Records → Type 0
KeepsRecords None new = ⊤
KeepsRecords (Some records) new = new ≡ Some records

-- known refusals stay as they were
abbrev pub KeepsRefusals : Option (List (ℕ × Cause)) → Option (List (ℕ × Cause)) → Type 0
KeepsRefusals None new = ⊤
KeepsRefusals (Some refusals) new = new ≡ Some refusals

-- each line feed that is gone from a known text ended a line that was counted
abbrev pub CountsLineFeeds : Option (List ℕ) → ℕ → Option (List ℕ) → ℕ → Type 0
CountsLineFeeds None old_lines new lines = ⊤
CountsLineFeeds (Some text) old_lines None lines = ⊥
CountsLineFeeds (Some text) old_lines (Some rest) lines = line_feeds text + old_lines ≡ line_feeds rest + lines

-- Where a read failed, the lines that were accepted are those whose line feed was read: none of the bytes that were
-- fetched behind them is a line feed, and what was to come is still to come of the bytes that are left.
pub record KeepsWholeLines {R : Type 0} (remaining : R → Option (List ℕ)) (old new : RecordReader R) : Type 0 where
  pub pending : line_feeds (pending_of new) ≡ 0
  pub feeds : CountsLineFeeds (unjudged remaining old) (lines_of old) (unjudged remaining new) (lines_of new)
  pub coming : KeepsRecords (to_come remaining old) (to_come remaining new)

abbrev pub FailsWhole : {R : Type 0} → (R → Option (List ℕ)) → RecordReader R → RecordReader R → Answer → Type 0
FailsWhole remaining old new (Ok entry) = ⊤
FailsWhole remaining old new (Err (Refused line cause)) = ⊤
FailsWhole remaining old new (Err Device) = KeepsWholeLines remaining old new

-- what holds where the reader still reads
abbrev pub WhereReading : Standing → Type 0 → Type 0
WhereReading Reading P = P
WhereReading Ended P = ⊤
WhereReading (Stopped stop) P = ⊤

-- what a search for the next line keeps
pub record KeepsProgress {R : Type 0} (old new : RecordReader R) : Type 0 where
  pub layout : layout_of new ≡ layout_of old
  pub lines : lines_of new ≡ lines_of old
  pub skipped : skipped_of new ≡ skipped_of old
  pub standing : standing_of new ≡ standing_of old

-- a search for the next line, judged under the number after those that were accepted
pub record StepsTo {R : Type 0} (remaining : R → Option (List ℕ)) (failure_count : R → ℕ) (old new : RecordReader R) (found : NextLine Judgement) : Type 0 where
  pub finds : FindsNext (layout_of old) (lines_of old + 1) (unjudged remaining old) (unjudged remaining new) found
  pub judges : JudgesSome (layout_of old) (lines_of old + 1) found
  pub pending : PendingWhole (pending_of new) found
  pub front : KeepsFront (pending_of new) (unjudged remaining new) found
  pub failures : CountsNext (failure_count (source_of old)) (failure_count (source_of new)) found
  pub progress : KeepsProgress old new

-- what is answered of a judged line: nothing where it is passed over
abbrev pub answer_of : ℕ → Judgement → Option Answer
answer_of number PassedOver = None
answer_of number (Read r) = Some (Ok (Some (number, r)))
answer_of number (judged.Refused cause) = Some (Err (Refused number cause))

abbrev pub lines_with : ℕ → Judgement → ℕ
lines_with lines PassedOver = lines + 1
lines_with lines (Read r) = lines + 1
lines_with lines (judged.Refused cause) = lines

abbrev pub skipped_with : ℕ → Judgement → ℕ
skipped_with skipped PassedOver = skipped + 1
skipped_with skipped (Read r) = skipped
skipped_with skipped (judged.Refused cause) = skipped

abbrev pub standing_with : Standing → ℕ → Judgement → Standing
standing_with standing number PassedOver = standing
standing_with standing number (Read r) = standing
standing_with standing number (judged.Refused cause) = Stopped (Refused number cause)

abbrev pub judged_with : ℕ → ℕ → Judgement → ℕ
judged_with count lines PassedOver = count
judged_with count lines (Read r) = count
judged_with count lines (judged.Refused cause) = lines

-- a judged line is counted, and answered unless it is passed over
pub record CountsLine {R : Type 0} (old new : RecordReader R) (j : Judgement) (answer : Option Answer) : Type 0 where
  pub is : answer ≡ answer_of (lines_of old + 1) j
  pub lines : lines_of new ≡ lines_with (lines_of old) j
  pub skipped : skipped_of new ≡ skipped_with (skipped_of old) j
  pub judged : judged_of new ≡ judged_with (judged_of old) (lines_of old) j
  pub standing : standing_of new ≡ standing_with (standing_of old) (lines_of old + 1) j
  pub layout : layout_of new ≡ layout_of old
  pub source : source_of new ≡ source_of old
  pub pending : pending_of new ≡ pending_of old

-- lines were passed over, and no other
pub record PassesOver {R : Type 0} (remaining : R → Option (List ℕ)) (failure_count : R → ℕ) (old new : RecordReader R) : Type 0 where
  pub standing : standing_of new ≡ Reading
  pub failures : failure_count (source_of new) ≡ failure_count (source_of old)
  pub counts : skipped_of new + lines_of old ≡ skipped_of old + lines_of new
  pub feeds : CountsLineFeeds (unjudged remaining old) (lines_of old) (unjudged remaining new) (lines_of new)
  pub coming : KeepsRecords (to_come remaining old) (to_come remaining new)
  pub refusals : KeepsRefusals (refused (layout_of old) (lines_of old) (unjudged remaining old)) (refused (layout_of new) (lines_of new) (unjudged remaining new))

-- what a reader answers that reads
pub record Moves {R : Type 0} (remaining : R → Option (List ℕ)) (failure_count : R → ℕ) (old new : RecordReader R) (answer : Answer) : Type 0 where
  pub gives : Gives (to_come remaining old) (outcome remaining new) (skipped_of new) answer
  pub settles : Settles (standing_of new) answer
  pub counts : CountsAnswer (lines_of old) (skipped_of old) (lines_of new) (skipped_of new) answer
  pub failures : TellsFailure Reading (failure_count (source_of old)) (failure_count (source_of new)) answer
  pub whole : FailsWhole remaining old new answer
  pub refusals : KeepsRefusals (refused (layout_of old) (lines_of old) (unjudged remaining old)) (refusals_to_come remaining new)
