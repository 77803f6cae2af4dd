-- What is told of records that are read.
use Rattle.std.specs.Prelude.{◌≡◌, ◌≢◌, ◌⊎◌, ℕ, List, [], Option, Some, None, IfSome, Bool, false}
use Rattle.tl_record.specs.declared.options.Options.{Options}
use Rattle.tl_record.specs.declared.refusal.Refusal.{Refusal}
use Rattle.tl_record.specs.Layout.{layout_with}
use Rattle.tl_record.specs.Left.{left_of}
use Rattle.tl_record.specs.Records.{Records, records_of}
use Rattle.tl_record.specs.Refusals.{refusals_of}
use Rattle.tl_map_rules.specs.Listing.Refusals.Listing.{ListsAll}
use Rattle.tl_map_rules.specs.declared.fault.RecordFault.{RecordFault}
use Rattle.tl_check_verdict.specs.Sound.{IsSoundFor}
use Rattle.tl_check_verdict.specs.Verdicts.{IsReport}
use Rattle.tl_check_verdict.specs.Records.{HaveMap}
use Rattle.tl_list_text.specs.declared.listing.Listing.{Listing}
use Rattle.tl_list_text.specs.declared.listing.Listing.TheVariants.{Sound, Refused, Faults}
use Rattle.tl_map_rules.specs.declared.lacking.Lacking.{Lacking}
use Rattle.tl_list.specs.Listings.{AreFaults, told_with}
use Rattle.tl_record.specs.declared.record.Record.{Record}
use Rattle.tl_map_rules.specs.Listing.AllFaults.{AreAllFaults}
use Rattle.tl_check_verdict.specs.declared.verdict.Report.{Report}
use Rattle.tl_list.specs.declared.of_records.Findings.{Findings}
use Rattle.tl_list.specs.declared.left.LeftFaults.{LeftFaults}
use Rattle.tl_list.specs.Findings.{IsMapIfAny}

-- the map of the records keeps what is asked of it, and these are its numbers; or no line is refused, and these are all faults
abbrev pub IsListingOfRecords : (faces : Bool) → Records → Listing → Type 0
IsListingOfRecords faces all (Sound report) = HaveMap all (λ m. IsSoundFor faces m × IsReport m report)
IsListingOfRecords faces all (Refused list) = ⊥
IsListingOfRecords faces all (Faults faults touched) =
    (faults.items ≢ []) × (all.refusal ≡ None) × AreFaults faces all faults.items touched

-- what is listed of records, none of whose lines is refused, and their map
pub record AreFindingsOfRecords (faces : Bool) (all : Records) (listed : Findings) : Type 0 where
  pub told : IsListingOfRecords faces all listed.listing
  pub drawn : IsMapIfAny all listed.map

-- these faults of records are listed, as they are told where there are no records of these types
abbrev pub IsListOf : Lacking → List RecordFault → Listing → Type 0
IsListOf lacking told (Sound report) = ⊥
IsListOf lacking told (Refused list) = ⊥
IsListOf lacking told (Faults faults touched) = (faults.items ≡ told_with lacking told) × (touched ≡ 0)

-- all faults of the records are listed, and no map
pub record AreTold (rs : List Record) (lacking : Lacking) (listed : Findings) : Type 0 where
  pub faults : List RecordFault
  pub are_all : AreAllFaults rs faults
  pub told : IsListOf lacking faults listed.listing
  pub undrawn : listed.map ≡ None

-- these lines are refused, and this is listed of what is left without them; no line is refused unless they are skipped
pub record AreRead (options : Options) (skips : Bool) (known : Option (List ℕ)) (refused : List Refusal) (listed : Findings) : Type 0 where
  pub all : IfSome known (λ text. ListsAll (refusals_of (layout_with options) text) refused)
  pub none : skips ≡ false → refused ≡ []
  pub told : IfSome known (λ text. AreFindingsOfRecords options.faces (records_of (layout_with options) (left_of (layout_with options) text)) listed)
  pub of_some : (all : Records) × AreFindingsOfRecords options.faces all listed

-- what is told of records that are left, of which no line is refused: their faults, or that there are none
abbrev pub AreLeftOf : (faces : Bool) → Records → Option LeftFaults → Type 0
AreLeftOf faces all (Some left) =
    AreFindingsOfRecords faces all (record { listing = Faults left.faults left.touched; map = left.map })
    ⊎ ((left.faults.items ≡ []) × (left.touched ≡ 0) × ((report : Report) × AreFindingsOfRecords faces all (record { listing = Sound report; map = left.map })))
AreLeftOf faces all None = ⊥
