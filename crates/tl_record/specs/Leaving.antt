-- What a record reader still has to give of what is left without refused lines, and how it passes over one.
use Rattle.std.specs.Prelude.{◌≡◌, ℕ, ◌+◌, ◌-◌, ◌≤◌, ◌^◌, ◌==◌, ◌&&◌, nat_lt, Bool, true, false, List, ◌∷◌, length, Option, None, Some, Result, Ok, Err, ⊤, IfSome}
use Rattle.std.specs.Option.{option_map}
use Rattle.tl_record.specs.declared.layout.Layout.{Layout}
use Rattle.tl_record.specs.declared.stop.Cause.{Cause}
use Rattle.tl_record.specs.declared.stop.ReadStop.TheVariants.{Refused}
use Rattle.tl_record.specs.declared.stop.ReadStop.TheVariants as read
use Rattle.tl_record.specs.declared.refusal.RefusalStop.{RefusalStop}
use Rattle.tl_record.specs.declared.refusal.RefusalStop.TheVariants.{Device, Endless}
use Rattle.tl_record.specs.declared.reader.Standing.{Standing}
use Rattle.tl_record.specs.declared.reader.Standing.TheVariants.{Reading, Ended, Stopped}
use Rattle.tl_record.specs.declared.reader.RecordReader.{RecordReader}
use Rattle.tl_record.specs.Limits.{most_lines}
use Rattle.tl_record.specs.Lines.{raw_lines, after_first_line}
use Rattle.tl_record.specs.Records.{Records}
use Rattle.tl_record.specs.Refusals.{refused}
use Rattle.tl_record.specs.Left.{records_left}
use Rattle.tl_record.specs.Fronts.{lines_ahead, PassesLines, TakesLines}
use Rattle.tl_record.specs.Reader.{Answer, layout_of, lines_of, skipped_of, judged_of, standing_of, unjudged, with_skipped, with_entry, nothing_after, refusals_to_come, KeepsRecords, KeepsRefusals}

-- the records of what is left of a text that may be known, where so many lines come before it, and so many of them were passed over
abbrev pub left_in : Layout → ℕ → ℕ → Option (List ℕ) → Option Records
left_in layout lines skipped text = option_map (λ bytes. with_skipped skipped (records_left layout lines (raw_lines bytes))) text

-- a text that may be known, without its first line
abbrev pub behind_line : Option (List ℕ) → Option (List ℕ)
behind_line text = option_map after_first_line text

-- what is left, where a reader reads
abbrev pub left_reading : {R : Type 0} → (R → Option (List ℕ)) → RecordReader R → Option Records
left_reading remaining reader = left_in (layout_of reader) (lines_of reader) (skipped_of reader) (unjudged remaining reader)

-- and where it stopped at a refused line, which is passed over as an empty one
abbrev pub left_behind : {R : Type 0} → (R → Option (List ℕ)) → RecordReader R → Option Records
left_behind remaining reader = left_in (layout_of reader) (lines_of reader + 1) (skipped_of reader + 1) (behind_line (unjudged remaining reader))

abbrev pub left_standing : Standing → (here behind : Option Records) → ℕ → Option Records
left_standing Reading here behind skipped = here
left_standing Ended here behind skipped = Some (nothing_after skipped)
left_standing (Stopped (Refused line cause)) here behind skipped = behind
left_standing (Stopped read.Device) here behind skipped = None

-- What a reader still has to give of what is left without refused lines, where that is known.
abbrev pub left_to_come : {R : Type 0} → (R → Option (List ℕ)) → RecordReader R → Option Records
left_to_come remaining reader =
    left_standing (standing_of reader) (left_reading remaining reader) (left_behind remaining reader) (skipped_of reader)

-- all lines that are refused behind the one at which a reader stopped, where they are known
abbrev pub refusals_behind : {R : Type 0} → (R → Option (List ℕ)) → RecordReader R → Option (List (ℕ × Cause))
refusals_behind remaining reader = refused (layout_of reader) (lines_of reader + 1) (behind_line (unjudged remaining reader))

-- What an answer takes from what is left, where that was known: the first entry, and the rest comes after it; or the end. A line that is
-- refused takes nothing, unless its number is too great; a failed read leaves it unknown.
abbrev pub GivesLeft : Option Records → Option Records → ℕ → Answer → Type 0
GivesLeft None new skipped answer = ⊤
GivesLeft (Some old) new skipped (Ok (Some entry)) = (rest : Records) × (new ≡ Some rest) × (old ≡ with_entry entry rest)
GivesLeft (Some old) new skipped (Ok None) = old ≡ nothing_after skipped
GivesLeft (Some old) new skipped (Err (Refused line cause)) = line ≤ most_lines → new ≡ Some old
GivesLeft (Some old) new skipped (Err read.Device) = ⊤

-- a refusal is the first that was to come, and these come behind it
abbrev pub IsFirst : Option (List (ℕ × Cause)) → Option (List (ℕ × Cause)) → ℕ × Cause → Type 0
IsFirst old behind refusal = IfSome old (λ refusals. (rest : List (ℕ × Cause)) × (behind ≡ Some rest) × (refusals ≡ refusal ∷ rest))

-- where a reader stopped at a refused line, that isn't taken off the text, and it is the first of those that were to come
abbrev pub StopsBefore : {R : Type 0} → (R → Option (List ℕ)) → Option (List (ℕ × Cause)) → RecordReader R → Answer → Type 0
StopsBefore remaining old new (Ok entry) = ⊤
StopsBefore remaining old new (Err (Refused line cause)) = (judged_of new ≡ lines_of new) × IsFirst old (refusals_behind remaining new) (line, cause)
StopsBefore remaining old new (Err read.Device) = ⊤

-- lines were passed over, and no other
pub record LeavesOn {R : Type 0} (remaining : R → Option (List ℕ)) (old new : RecordReader R) : Type 0 where
  pub left : KeepsRecords (left_reading remaining old) (left_reading remaining new)
  pub ahead : PassesLines (lines_of new - lines_of old) (lines_ahead remaining old) (lines_ahead remaining new)
  pub onward : lines_of old ≤ lines_of new

-- what a reader answers that reads, of what is left
pub record Leaves {R : Type 0} (remaining : R → Option (List ℕ)) (old new : RecordReader R) (answer : Answer) : Type 0 where
  pub gives : GivesLeft (left_reading remaining old) (left_to_come remaining new) (skipped_of new) answer
  pub stops : StopsBefore remaining (refused (layout_of old) (lines_of old) (unjudged remaining old)) new answer
  pub ahead : TakesLines remaining old new answer
  pub onward : lines_of old ≤ lines_of new

-- Is a reader at a refused line that it can pass over: it stopped there, the line isn't taken off the text, and if it were empty it wouldn't
-- be refused. So many lines were accepted, and so many judged.
abbrev pub is_passable : Standing → (lines judged : ℕ) → Bool
is_passable Reading lines judged = false
is_passable Ended lines judged = false
is_passable (Stopped (Refused line cause)) lines judged = judged == lines && nat_lt lines most_lines
is_passable (Stopped read.Device) lines judged = false

-- The refused line is passed over and counted, and what comes behind it is to come.
pub record PassesRefused {R : Type 0} (remaining : R → Option (List ℕ)) (old new : RecordReader R) : Type 0 where
  pub standing : standing_of new ≡ Reading
  pub lines : lines_of new ≡ lines_of old + 1
  pub skipped : skipped_of new ≡ skipped_of old + 1
  pub ahead : PassesLines 1 (lines_ahead remaining old) (lines_ahead remaining new)
  pub left : KeepsRecords (left_to_come remaining old) (left_to_come remaining new)
  pub refusals : KeepsRefusals (refusals_behind remaining old) (refusals_to_come remaining new)

-- a known text has 2^64 - 1 bytes or more
abbrev pub IsEndless : Option (List ℕ) → Type 0
IsEndless text = IfSome text (λ bytes. 2 ^ 64 ≤ length bytes + 1)

-- what becomes of the refused line at which a reader stopped
abbrev pub MayPass : {R : Type 0} → (R → Option (List ℕ)) → RecordReader R → RecordReader R → Result Bool RefusalStop → Type 0
MayPass remaining old new (Ok true) = (is_passable (standing_of old) (lines_of old) (judged_of old) ≡ true) × PassesRefused remaining old new
MayPass remaining old new (Ok false) = (is_passable (standing_of old) (lines_of old) (judged_of old) ≡ false) × (new ≡ old)
MayPass remaining old new (Err Device) = standing_of new ≡ Stopped read.Device
MayPass remaining old new (Err Endless) = IsEndless (unjudged remaining old)
