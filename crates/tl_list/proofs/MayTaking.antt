-- What is taken and noted of the records that a reader gives, where refused lines may be skipped.
use Rattle.std.proofs.Common.{◌≡◌, ◌≢◌, ℕ, ◌≤◌, Bool, true, false, List, [], ◌∷◌, ◌++◌, Option, Some, None, refl, sym, ◌∙◌}
use Rattle.std.specs.Prelude.{Ok, Err}
use Rattle.tl_record.specs.declared.record.Record.{Record}
use Rattle.tl_record.specs.declared.stop.Cause.{Cause}
use Rattle.tl_record.specs.declared.stop.ReadStop.TheVariants.{Refused}
use Rattle.tl_record.specs.declared.refusal.Refusal.{Refusal}
use Rattle.tl_record.specs.declared.reader.RecordReader.{RecordReader}
use Rattle.tl_record.specs.Limits.{most_lines}
use Rattle.tl_record.specs.Records.{Records}
use Rattle.tl_record.specs.Reader.{KeepsRecords, KeepsRefusals, refusals_to_come, skipped_of}
use Rattle.tl_record.specs.Leaving.{GivesLeft, left_to_come}
use Rattle.tl_map_rules.specs.Listing.Refusals.Listing.{ListsSoFar}
use Rattle.tl_list.specs.declared.reading.Taken.{Taken}
use Rattle.tl_list.specs.Keeping.Noting.{NotesOne, NotesRecords}
use Rattle.tl_list.specs.Keeping.Reading.{Takes, TakesOne, MaySoFar, MayTake, taken_if}
use Rattle.tl_list.proofs.Gathering.{keeps_none, keeps_more, keeps_passed, keeps_all, left_gives}
use Rattle.tl_list.proofs.NotedLemmas.{notes_none, notes_more, notes_passed, notes_all}
use Rattle.tl_list.proofs.Passing.{all_listed}

pub may_none : (joins skips notes : Bool) (at_first : Option Records) (taken : Taken) → Takes joins [] taken → MaySoFar joins skips notes at_first at_first [] [] (Some taken)
may_none joins skips notes at_first taken takes = (keeps_none joins at_first taken takes, notes_none notes at_first, λ off. refl)

-- one record more
pub may_more : (joins skips notes : Bool) (at_first now new : Option Records) (skipped line : ℕ) (r : Record) (refused : List Refusal) (old entries : List (ℕ × Record)) (a b : Option Taken)
    → GivesLeft now new skipped (Ok (Some (line, r))) → TakesOne a b r → NotesOne notes a old entries (line, r)
    → MaySoFar joins skips notes at_first now refused old a → MaySoFar joins skips notes at_first new refused entries b
may_more joins skips notes at_first now new skipped line r refused old entries (Some a) (Some b) gives takes noted before =
    let given = left_gives now new skipped (Some (line, r)) gives in
    (keeps_more joins at_first now new skipped line r a b given takes before.0, notes_more notes at_first now new skipped line r old entries given before.1 noted, before.2)
may_more joins skips notes at_first now new skipped line r refused old entries (Some a) None gives takes noted before = absurd takes
may_more joins skips notes at_first now new skipped line r refused old entries None (Some b) gives takes noted before = absurd takes
may_more joins skips notes at_first now new skipped line r refused old entries None None gives takes noted before = before

some_more : (refused : List Refusal) (refusal : Refusal) → refused ++ refusal ∷ [] ≢ []
some_more [] refusal none = cc
some_more (first ∷ refused) refusal none = cc

-- a refused line that is passed over
pub may_passed : (joins skips notes : Bool) (at_first now mid new : Option Records) (skipped line : ℕ) (cause : Cause) (refused : List Refusal) (refusal : Refusal)
    (entries : List (ℕ × Record)) (taken : Option Taken) → GivesLeft now mid skipped (Err (Refused line cause)) → line ≤ most_lines → KeepsRecords mid new
    → MaySoFar joins skips notes at_first now refused entries taken → MaySoFar joins skips notes at_first new (refused ++ refusal ∷ []) entries (taken_if skips taken)
may_passed joins true notes at_first now mid new skipped line cause refused refusal entries (Some taken) gives few keeps before = (
  keeps_passed joins at_first now mid new skipped line cause taken gives few keeps before.0,
  notes_passed notes at_first now mid new skipped line cause entries gives few keeps before.1,
  λ off. absurd (cc),
)
may_passed joins true notes at_first now mid new skipped line cause refused refusal entries None gives few keeps before = absurd (let wrong = before.0 in cc)
may_passed joins false notes at_first now mid new skipped line cause refused refusal entries taken gives few keeps before = (refl, some_more refused refusal)

-- all records and all refused lines were given
pub may_all : {R : Type 0} (remaining : R → Option (List ℕ)) (joins skips notes : Bool) (first now new : RecordReader R) (refused : List Refusal) (entries : List (ℕ × Record)) (taken : Option Taken)
    → GivesLeft (left_to_come remaining now) (left_to_come remaining new) (skipped_of new) (Ok None)
    → MaySoFar joins skips notes (left_to_come remaining first) (left_to_come remaining now) refused entries taken
    → ListsSoFar (refusals_to_come remaining first) (refusals_to_come remaining now) refused → KeepsRefusals (refusals_to_come remaining now) (refusals_to_come remaining new)
    → refusals_to_come remaining new ≡ Some [] → MayTake joins skips remaining first new refused taken
may_all remaining joins skips notes first now new refused entries (Some taken) gives before lists keeps none = (
  keeps_all joins (left_to_come remaining first) (left_to_come remaining now) (left_to_come remaining new) (skipped_of new) taken
      (left_gives (left_to_come remaining now) (left_to_come remaining new) (skipped_of new) None gives) before.0,
  record { all = all_listed _ _ _ refused lists keeps none; none = before.2 },
)
may_all remaining joins skips notes first now new refused entries None gives before lists keeps none = record {
  all = all_listed _ _ _ refused lists keeps none;
  some = before.1;
  beyond = λ skipping. absurd (let wrong = sym skipping ∙ before.0 in cc);
}

pub may_noted : (joins skips notes : Bool) (at_first now new : Option Records) (skipped : ℕ) (refused : List Refusal) (entries : List (ℕ × Record)) (taken : Option Taken)
    → GivesLeft now new skipped (Ok None) → MaySoFar joins skips notes at_first now refused entries taken → NotesRecords notes at_first taken entries
may_noted joins skips notes at_first now new skipped refused entries (Some taken) gives before =
    notes_all notes at_first now new skipped entries (left_gives now new skipped None gives) before.1
may_noted joins skips notes at_first now new skipped refused entries None gives before = λ on. tt
