-- What a picture is drawn of: the map of a text's records, and its faults where they are asked for.
use Rattle.std.specs.Prelude.{◌≡◌, ◌⊎◌, ◌↔◌, ℕ, Bool, true, false, IsTrue, List, [], Option, IfSome, Result, Ok, Err, ⊤}
use Rattle.tl_record.specs.declared.options.Options.{Options}
use Rattle.tl_record.specs.Layout.{layout_with}
use Rattle.tl_record.specs.Records.{records_of}
use Rattle.tl_map_rules.specs.Reading.{IsReadFrom}
use Rattle.tl_map_county.specs.TheMap.{TheMap}
use Rattle.tl_check_verdict.specs.declared.fault.MapFault.{MapFault}
use Rattle.tl_check_verdict.specs.Sound.{IsSound, IsSoundFor}
use Rattle.tl_decide.specs.MapFaults.{AreFaultsFor}
use Rattle.tigertopo_program.specs.Records.{IsOfRecords}
use Rattle.tigertopo_program.specs.declared.draw.subject.Subject.{Subject}

-- these are all faults of a map, which touch so many polygons, and there are none where it keeps what is asked of it; `faces` says whether
-- faces are asked for
abbrev pub AreFaultsOf : (faces : Bool) → TheMap → List MapFault → (touched : ℕ) → Type 0
AreFaultsOf faces m faults touched = ((faults ≡ []) × (touched ≡ 0) × IsSoundFor faces m) ⊎ AreFaultsFor faces m faults touched

-- the faults that a picture is to show: all faults of the map, or none where they aren't asked for
abbrev pub AreToShow : (faces : Bool) → Bool → TheMap → List MapFault → (touched : ℕ) → Type 0
AreToShow faces false m faults touched = (faults ≡ []) × (touched ≡ 0)
AreToShow faces true m faults touched = AreFaultsOf faces m faults touched

-- whether the map is sound, where that is known
abbrev pub IsKnownOf : TheMap → Option Bool → Type 0
IsKnownOf m known = IfSome known (λ sound. IsTrue sound ↔ IsSound m)

-- what is drawn of records: their map with the faults to show, and whether it is known to be sound, whatever is known of the text; or the fault
-- of records that have none
abbrev pub IsSubjectOf : Options → Option (List ℕ) → Bool → Result Subject MapFault → Type 0
IsSubjectOf options known shows (Ok subject) =
    IfSome known (λ text. IsReadFrom (records_of (layout_with options) text) subject.map
    × AreToShow options.faces shows subject.map subject.faults.items subject.touched) × IsKnownOf subject.map subject.is_sound
IsSubjectOf options known shows (Err fault) = IsOfRecords (layout_with options) known (λ fault. ⊤) fault
