-- What the search for refused lines takes from what was to come, and how lines are taken off a text.
use Rattle.std.specs.Prelude.{◌≡◌, ◌≢◌, ℕ, ◌+◌, ◌≤◌, ◌^◌, List, [], ◌∷◌, length, Option, None, Some, Result, Ok, Err, ⊤, Bool, true, false, if◌then◌else◌}
use Rattle.std.specs.Option.{option_map}
use Rattle.tl_record.specs.declared.layout.Layout.{Layout}
use Rattle.tl_record.specs.declared.stop.Cause.{Cause}
use Rattle.tl_record.specs.declared.refusal.Refusal.{Refusal}
use Rattle.tl_record.specs.declared.refusal.RefusalStop.{RefusalStop}
use Rattle.tl_record.specs.declared.refusal.RefusalStop.TheVariants.{Device, Endless}
use Rattle.tl_record.specs.declared.reader.Standing.{Standing}
use Rattle.tl_record.specs.declared.reader.Standing.TheVariants.{Reading, Ended, Stopped}
use Rattle.tl_record.specs.declared.stop.ReadStop.TheVariants.{Refused}
use Rattle.tl_record.specs.declared.stop.ReadStop.TheVariants as read
use Rattle.tl_record.specs.declared.take.Taken.{Taken}
use Rattle.tl_record.specs.declared.take.Taken.TheVariants as taken
use Rattle.tl_record.specs.declared.reader.RecordReader.{RecordReader}
use Rattle.tl_record.specs.Failures.{one_more}
use Rattle.tl_record.specs.Lines.{first_line, after_first_line}
use Rattle.tl_record.specs.Judgement.{judgement}
use Rattle.tl_record.specs.Refusals.{refused, cause_of}
use Rattle.tl_record.specs.Reader.{source_of, layout_of, lines_of, judged_of, standing_of, unjudged, lines_before, refusals_to_come, KeepsRefusals}

-- how many lines were judged and how many bytes weren't, in one sum, where they are known
abbrev pub extent_of : ℕ → Option (List ℕ) → Option ℕ
extent_of lines text = option_map (λ bytes. lines + length bytes) text

abbrev pub extent : {R : Type 0} → (R → Option (List ℕ)) → RecordReader R → Option ℕ
extent remaining reader = extent_of (lines_before (standing_of reader) (lines_of reader) (judged_of reader)) (unjudged remaining reader)

abbrev pub Found : Type 0
Found = Result (Option Refusal) RefusalStop

-- a refused line's number and the cause
abbrev pub pair_of : Refusal → ℕ × Cause
pair_of refusal = (refusal.line, refusal.cause)

-- What an answer takes from the refusals that were to come, where they were known: the first, and the rest come after
-- it; or their end.
abbrev pub GivesRefusal : Option (List (ℕ × Cause)) → Option (List (ℕ × Cause)) → Found → Type 0
GivesRefusal None new answer = ⊤
GivesRefusal (Some old) new (Ok (Some refusal)) = (rest : List (ℕ × Cause)) × (new ≡ Some rest) × (old ≡ pair_of refusal ∷ rest)
GivesRefusal (Some old) new (Ok None) = old ≡ []
GivesRefusal (Some old) new (Err stop) = ⊤

-- After a refusal, the end or a failed read, that is what a reader of records answers from then on.
abbrev pub SettlesSearch : Standing → Found → Type 0
SettlesSearch standing (Ok (Some refusal)) = standing ≡ Stopped (Refused refusal.line refusal.cause)
SettlesSearch standing (Ok None) = standing ≡ Ended
SettlesSearch standing (Err Device) = standing ≡ Stopped read.Device
SettlesSearch standing (Err Endless) = ⊤

-- A reader that ended, or of which a read failed, stays as it is, and answers the same again.
abbrev pub RepeatsSearch : {R : Type 0} → Standing → RecordReader R → RecordReader R → Found → Type 0
RepeatsSearch Reading old new found = ⊤
RepeatsSearch Ended old new found = (found ≡ Ok None) × (new ≡ old)
RepeatsSearch (Stopped (Refused line cause)) old new found = ⊤
RepeatsSearch (Stopped read.Device) old new found = (found ≡ Err Device) × (new ≡ old)

-- whether a search goes on: the end wasn't reached, and no read failed
abbrev pub goes_on : Standing → Bool
goes_on Reading = true
goes_on Ended = false
goes_on (Stopped (Refused line cause)) = true
goes_on (Stopped read.Device) = false

-- the failures after a read that failed, if the search goes on
abbrev pub failed_once : Standing → ℕ → ℕ
failed_once standing count = if goes_on standing then one_more count else count

-- The source counts a failed read, and `Device` comes of nothing else.
abbrev pub TellsFailed : Standing → ℕ → ℕ → Found → Type 0
TellsFailed standing old new (Ok refusal) = new ≡ old
TellsFailed standing old new (Err Device) = new ≡ failed_once standing old
TellsFailed standing old new (Err Endless) = new ≡ old

-- it is given up where a known text has 2^64 - 1 bytes or more, its lines that were judged counted as a byte each
abbrev pub GivesUp : Option ℕ → Option ℕ → Found → Type 0
GivesUp None new answer = ⊤
GivesUp (Some old) new (Ok (Some refusal)) = (count : ℕ) × (new ≡ Some count) × (count ≤ old)
GivesUp (Some old) new (Ok None) = ⊤
GivesUp (Some old) new (Err Device) = ⊤
GivesUp (Some old) new (Err Endless) = 2 ^ 64 ≤ old + 1

-- ---- on the way

-- the first line of a known text is taken off, or the search for its end failed or was given up
abbrev pub SkipsLine : {T : Type 0} → Option (List ℕ) → Option (List ℕ) → Result T RefusalStop → Type 0
SkipsLine None new answer = ⊤
SkipsLine (Some text) new (Ok done) = new ≡ Some (after_first_line text)
SkipsLine (Some text) new (Err Device) = ⊤
SkipsLine (Some text) new (Err Endless) = 2 ^ 64 ≤ length text + 1

-- a failed fetch counts
abbrev pub CountsSkip : {T : Type 0} → ℕ → ℕ → Result T RefusalStop → Type 0
CountsSkip old new (Ok done) = new ≡ old
CountsSkip old new (Err Device) = new ≡ one_more old
CountsSkip old new (Err Endless) = new ≡ old

-- the first line of a text was judged under this number and taken off
pub record TakesFirst (layout : Layout) (number : ℕ) (text : List ℕ) (new : Option (List ℕ)) (cause : Option Cause) : Type 0 where
  pub some : text ≢ []
  pub is : cause ≡ cause_of (judgement layout number (first_line text))
  pub rest : new ≡ Some (after_first_line text)

-- what was taken off the text that wasn't judged before, where that is known
abbrev pub TakesNext : Layout → ℕ → Option (List ℕ) → Option (List ℕ) → Taken → Type 0
TakesNext layout number None new found = ⊤
TakesNext layout number (Some text) new (taken.Line cause) = TakesFirst layout number text new cause
TakesNext layout number (Some text) new taken.End = text ≡ []
TakesNext layout number (Some text) new (taken.Stopped Device) = ⊤
TakesNext layout number (Some text) new (taken.Stopped Endless) = 2 ^ 64 ≤ length text + 1

-- a failed fetch counts
abbrev pub CountsTaken : ℕ → ℕ → Taken → Type 0
CountsTaken old new (taken.Line cause) = new ≡ old
CountsTaken old new taken.End = new ≡ old
CountsTaken old new (taken.Stopped Device) = new ≡ one_more old
CountsTaken old new (taken.Stopped Endless) = new ≡ old

-- a known sum doesn't grow
abbrev pub Shrinks : Option ℕ → Option ℕ → Type 0
Shrinks None new = ⊤
Shrinks (Some old) new = (count : ℕ) × (new ≡ Some count) × (count ≤ old)

-- lines were judged that aren't refused, and no other
pub record SearchesOn {R : Type 0} (remaining : R → Option (List ℕ)) (failure_count : R → ℕ) (old new : RecordReader R) : Type 0 where
  pub layout : layout_of new ≡ layout_of old
  pub standing : standing_of new ≡ standing_of old
  pub failures : failure_count (source_of new) ≡ failure_count (source_of old)
  pub coming : KeepsRefusals (refused (layout_of old) (judged_of old) (unjudged remaining old)) (refused (layout_of new) (judged_of new) (unjudged remaining new))
  pub shrinks : Shrinks (extent_of (judged_of old) (unjudged remaining old)) (extent_of (judged_of new) (unjudged remaining new))

-- what is found behind the lines that were judged
pub record Finds {R : Type 0} (remaining : R → Option (List ℕ)) (failure_count : R → ℕ) (old new : RecordReader R) (found : Found) : Type 0 where
  pub gives : GivesRefusal (refused (layout_of old) (judged_of old) (unjudged remaining old)) (refusals_to_come remaining new) found
  pub settles : SettlesSearch (standing_of new) found
  pub failures : TellsFailed Reading (failure_count (source_of old)) (failure_count (source_of new)) found
  pub endless : GivesUp (extent_of (judged_of old) (unjudged remaining old)) (extent remaining new) found
