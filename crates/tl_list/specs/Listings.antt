-- What a county's text is told to be where all that is wrong with it is asked for.
use Rattle.std.specs.Prelude.{◌≡◌, ◌≢◌, ◌⊎◌, ℕ, Bool, not, if◌then◌else◌, List, [], ◌∷◌, ◌++◌, map, filter, None}
use Rattle.tl_record.specs.declared.options.Options.{Options}
use Rattle.tl_record.specs.Layout.{layout_with}
use Rattle.tl_record.specs.Records.{Records, records_of}
use Rattle.tl_record.specs.Refusals.{refusals_of}
use Rattle.tl_map_rules.specs.Listing.Refusals.Listing.{ListsAll}
use Rattle.tl_map_rules.specs.declared.fault.RecordFault.{RecordFault}
use Rattle.tl_map_rules.specs.declared.lacking.Lacking.{Lacking}
use Rattle.tl_map_rules.specs.Lacking.{explains, lacks}
use Rattle.tl_map_rules.specs.Reading.{records_in, lacking_of}
use Rattle.tl_map_rules.specs.Listing.AllFaults.{AreAllFaults}
use Rattle.tl_check_verdict.specs.declared.fault.MapFault.{MapFault}
use Rattle.tl_check_verdict.specs.declared.fault.MapFault.TheVariants as fault
use Rattle.tl_check_verdict.specs.Sound.{IsSoundFor}
use Rattle.tl_check_verdict.specs.Verdicts.{IsReport}
use Rattle.tl_check_verdict.specs.Records.{HaveMap}
use Rattle.tl_list_text.specs.declared.listing.Listing.{Listing}
use Rattle.tl_list_text.specs.declared.listing.Listing.TheVariants.{Sound, Refused, Faults}
use Rattle.tl_decide.specs.MapFaults.{AreFaultsFor}

-- does the fault miss no record of a type of which there is none
abbrev pub stands_alone : Lacking → RecordFault → Bool
stands_alone lacking fault = not (explains lacking fault)

-- that there are no records of these types, where there are none of some
abbrev pub lack_told : Lacking → List MapFault
lack_told lacking = if lacks lacking then fault.NoRecords lacking ∷ [] else []

-- the faults as they are told: where there are no records of some type, that is told behind them, in place of all that hang on it
abbrev pub told_with : Lacking → List RecordFault → List MapFault
told_with lacking faults = map fault.Records (filter (stands_alone lacking) faults) ++ lack_told lacking

-- the faults are all that are true of the records, as they are told where records of each type are asked for
pub record AreRecordFaults (all : Records) (faults : List MapFault) : Type 0 where
  pub told : List RecordFault
  pub are_all : AreAllFaults (records_in all) told
  pub are : faults ≡ told_with (lacking_of all) told

-- the faults are all that are true of the records, or where they have a map, all faults of that
abbrev pub AreFaults : (faces : Bool) → Records → List MapFault → ℕ → Type 0
AreFaults faces all faults touched =
    (AreRecordFaults all faults × (touched ≡ 0)) ⊎ HaveMap all (λ m. AreFaultsFor faces m faults touched)

-- what is told of a text: its map keeps what is asked of it, and these are its numbers; or these are all its lines that are refused;
-- or none is refused, and these are all faults. A list that is told isn't empty.
abbrev pub IsListingOf : Options → List ℕ → Listing → Type 0
IsListingOf options text (Sound report) = HaveMap (records_of (layout_with options) text) (λ m. IsSoundFor options.faces m × IsReport m report)
IsListingOf options text (Refused list) = (list.items ≢ []) × ListsAll (refusals_of (layout_with options) text) list.items
IsListingOf options text (Faults faults touched) =
    (faults.items ≢ []) × ((records_of (layout_with options) text).refusal ≡ None)
    × AreFaults options.faces (records_of (layout_with options) text) faults.items touched
