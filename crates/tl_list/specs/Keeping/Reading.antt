-- What is kept of the records that a reader gives, and what is still to come.
use Rattle.std.specs.Prelude.{◌≡◌, ◌≢◌, ℕ, Bool, true, false, List, [], ◌∷◌, ◌++◌, map, Option, Some, None, IfSome, ⊤, if◌then◌else◌}
use Rattle.tl_record.specs.declared.record.Record.{Record}
use Rattle.tl_record.specs.declared.stop.Cause.{Cause}
use Rattle.tl_record.specs.declared.refusal.Refusal.{Refusal}
use Rattle.tl_record.specs.declared.reader.RecordReader.{RecordReader}
use Rattle.std.specs.Option.{option_map}
use Rattle.tl_record.specs.Records.{Records, joined_where}
use Rattle.tl_map.specs.Joined.Told.{HasTold, joined_records}
use Rattle.tl_record.specs.Reader.{skipped_of, refusals_to_come}
use Rattle.tl_record.specs.Leaving.{left_to_come}
use Rattle.tl_record.specs.Searching.{pair_of}
use Rattle.tl_map_rules.specs.Listing.Refusals.Listing.{BeginsWith, ListsAll}
use Rattle.tl_list.specs.Findings.{HasBeyond}
use Rattle.tl_list.specs.Keeping.Noting.{NotesSoFar}
use Rattle.tl_map_rules.specs.Reading.{records_in}
use Rattle.tl_map.specs.Collecting.{HasCollected}
use Rattle.tl_map.specs.declared.collected.CollectedRecords.{CollectedRecords}
use Rattle.tl_list.specs.declared.reading.Taken.{Taken}
use Rattle.tl_list.specs.declared.reading.Taken.TheVariants.{Kept, Told}

-- so many records were given of those that were to come at first, and the rest comes now
abbrev pub IsSoFar : Option Records → Option Records → List Record → Type 0
IsSoFar at_first now rs =
    IfSome at_first (λ all. (rest : Records) × (now ≡ Some rest) × (records_in all ≡ rs ++ records_in rest) × (all.refusal ≡ rest.refusal)
    × (all.skipped ≡ rest.skipped))

-- these records were taken: kept, or told until they are joined
abbrev pub Takes : Bool → List Record → Taken → Type 0
Takes false rs (Kept kept) = HasCollected rs kept
Takes false rs (Told told) = ⊥
Takes true rs (Kept kept) = ⊥
Takes true rs (Told told) = HasTold rs told

-- the records with each chain that is told twice once, where they are joined
abbrev pub joined_if : Bool → List Record → List Record
joined_if false rs = rs
joined_if true rs = joined_records rs

-- the records so far are taken
pub record TakesSoFar (joins : Bool) (at_first now : Option Records) (taken : Taken) : Type 0 where
  pub records : List Record
  pub keeps : Takes joins records taken
  pub known : IsSoFar at_first now records

-- these are the records of a text, none of whose lines is refused, and so many lines of which were passed over
pub record AreWhole (all : Records) (skipped : ℕ) (records : List Record) : Type 0 where
  pub records_are : records_in all ≡ records
  pub no_refusal : all.refusal ≡ None
  pub skipped_lines : all.skipped ≡ skipped

-- all records that were to come are taken, and no line of these is refused
pub record TakesAll (joins : Bool) (at_first : Option Records) (skipped : ℕ) (taken : Taken) : Type 0 where
  pub records : List Record
  pub keeps : Takes joins records taken
  pub known : IfSome at_first (λ all. AreWhole all skipped records)

-- all records that were to come are kept, and no line of these is refused
pub record KeepsAll (at_first : Option Records) (skipped : ℕ) (kept : CollectedRecords) : Type 0 where
  pub records : List Record
  pub keeps : HasCollected records kept
  pub known : IfSome at_first (λ all. AreWhole all skipped records)

-- all refused lines are listed, of which there is none unless they are skipped
pub record ListsSkipped (skips : Bool) (refusals : Option (List (ℕ × Cause))) (refused : List Refusal) : Type 0 where
  pub all : IfSome refusals (λ rs. ListsAll rs refused)
  pub none : skips ≡ false → refused ≡ []

-- all refused lines are listed, and one isn't passed over
pub record IsStopped (skips : Bool) (refusals : Option (List (ℕ × Cause))) (refused : List Refusal) : Type 0 where
  pub all : IfSome refusals (λ rs. ListsAll rs refused)
  pub some : refused ≢ []
  pub beyond : skips ≡ true → HasBeyond refused

-- what was taken: all records of what is left without refused lines; or none, and all refused lines alone
abbrev pub MayTake : {R : Type 0} → (joins skips : Bool) → (R → Option (List ℕ)) → (old new : RecordReader R) → List Refusal → Option Taken → Type 0
MayTake joins skips remaining old new refused (Some taken) =
    TakesAll joins (left_to_come remaining old) (skipped_of new) taken × ListsSkipped skips (refusals_to_come remaining old) refused
MayTake joins skips remaining old new refused None = IsStopped skips (refusals_to_come remaining old) refused

-- what was read: the same, kept, and joined where that is asked
abbrev pub MayRead : {R : Type 0} → (joins skips : Bool) → (R → Option (List ℕ)) → (old new : RecordReader R) → List Refusal → Option CollectedRecords → Type 0
MayRead joins skips remaining old new refused (Some kept) =
    KeepsAll (option_map (joined_where joins) (left_to_come remaining old)) (skipped_of new) kept × ListsSkipped skips (refusals_to_come remaining old) refused
MayRead joins skips remaining old new refused None = IsStopped skips (refusals_to_come remaining old) refused

-- behind these lines a refused one is listed, and where it is the first that was to come, all others
pub record ListsFrom (front : List Refusal) (first : Refusal) (refusals : Option (List (ℕ × Cause))) (refused : List Refusal) : Type 0 where
  pub all : IfSome refusals (λ rs. (behind : List (ℕ × Cause)) → rs ≡ pair_of first ∷ behind → ListsAll (map pair_of front ++ rs) refused)
  pub begins : BeginsWith (front ++ first ∷ []) refused

-- one more record is taken, where records are still taken
abbrev pub TakesOne : Option Taken → Option Taken → Record → Type 0
TakesOne (Some old) (Some new) r = (joins : Bool) (rs : List Record) → Takes joins rs old → Takes joins (rs ++ r ∷ []) new
TakesOne (Some old) None r = ⊥
TakesOne None (Some new) r = ⊥
TakesOne None None r = ⊤

-- what was taken, where refused lines are skipped
abbrev pub taken_if : Bool → Option Taken → Option Taken
taken_if skips taken = if skips then taken else None

-- what was taken and noted so far; behind a refused line that isn't skipped nothing is taken any more
abbrev pub MaySoFar : (joins skips notes : Bool) → (at_first now : Option Records) → List Refusal → List (ℕ × Record) → Option Taken → Type 0
MaySoFar joins skips notes at_first now refused entries (Some taken) =
    TakesSoFar joins at_first now taken × NotesSoFar notes at_first now entries × (skips ≡ false → refused ≡ [])
MaySoFar joins skips notes at_first now refused entries None = (skips ≡ false) × (refused ≢ [])
