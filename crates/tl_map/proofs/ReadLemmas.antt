use Rattle.std.proofs.Common.{◌≡◌, ℕ, Bool, true, false, Option, Some, None, List, Result, Ok, Err, sym, ◌∙◌}
use Rattle.std.specs.Prelude.{IfSome, IfOk, IfErr, MatchResult}
use Rattle.std.specs.Option.{option_map}
use Rattle.tl_record.specs.declared.record.Record.{Record}
use Rattle.tl_record.specs.Records.{Records, asked_where}
use Rattle.tl_map_rules.specs.declared.lacking.Lacking.{Lacking}
use Rattle.tl_map_rules.specs.Lacking.{lacking_where, lacks}
use Rattle.tl_map_county.specs.Chains.{ChainList}
use Rattle.tl_map_county.specs.TheMap.{TheMap}
use Rattle.tl_map_rules.specs.declared.fault.RecordFault.{RecordFault}
use Rattle.tl_map_rules.specs.declared.fault.MapStop.{MapStop}
use Rattle.tl_map_rules.specs.declared.fault.MapStop.TheVariants.{Refused, Device, Memory, Fault, NoRecords}
use Rattle.tl_map_rules.specs.Reading.{records_in, AreReadFrom, IsReadFrom, StopsReading, IfFault}
use Rattle.tl_map.specs.Keeping.Built.{AreBuilt, StopsBuilding}
use Rattle.tl_map.specs.Keeping.Mapped.{AreMapped}
use Rattle.tl_map.specs.Keeping.Gathering.{StopsGathering}

-- the records that were to come are these, and none of their lines is refused
abbrev pub AreAll : Option Records → ℕ → List Record → Type 0
AreAll came skipped rs = IfSome came (λ all. (records_in all ≡ rs) × (all.refusal ≡ None) × (all.skipped ≡ skipped))

-- why not all records come is why the text isn't read
pub stops_gathered : {X : Type 0} (complete : Bool) (layout : X → Records) (text : Option X) (came : Option Records) (stop : MapStop) → came ≡ option_map layout text → StopsGathering came stop → IfSome text (λ x. StopsReading (asked_where complete (layout x)) stop)
stops_gathered complete layout None came stop is why = tt
stops_gathered complete layout (Some x) came Device is why = tt
stops_gathered complete layout (Some x) came Memory is why = tt
stops_gathered complete layout (Some x) came (Refused line cause) is why = rw is at why
stops_gathered complete layout (Some x) came (Fault fault) is why = absurd why
stops_gathered complete layout (Some x) came (NoRecords lacking) is why = absurd why

-- and it is no fault
pub no_fault_gathered : (P : RecordFault → Type 0) (came : Option Records) (stop : MapStop) → StopsGathering came stop → IfFault P stop
no_fault_gathered P came Device why = tt
no_fault_gathered P came Memory why = tt
no_fault_gathered P came (Refused line cause) why = tt
no_fault_gathered P came (Fault fault) why = absurd why
no_fault_gathered P came (NoRecords lacking) why = tt

-- why the records have no chains or no map is why the text isn't read
pub stops_built : {X T : Type 0} (complete : Bool) (layout : X → Records) (text : Option X) (came : Option Records) (skipped : ℕ) (rs : List Record) (P : T → Type 0) (r : Result T MapStop) → came ≡ option_map layout text → AreAll came skipped rs → MatchResult r P (StopsBuilding rs) → IfErr r (λ stop. IfSome text (λ x. StopsReading (asked_where complete (layout x)) stop))
stops_built complete layout text came skipped rs P (Ok made) is all built = tt
stops_built complete layout None came skipped rs P (Err stop) is all why = tt
stops_built complete layout (Some x) came skipped rs P (Err Memory) is all why = tt
stops_built complete layout (Some x) came skipped rs P (Err Device) is all why = tt
stops_built complete layout (Some x) came skipped rs P (Err (Refused line cause)) is all why = absurd why
stops_built complete layout (Some x) came skipped rs P (Err (Fault fault)) is all why =
    let known : (records_in (layout x) ≡ rs) × ((layout x).refusal ≡ None) × ((layout x).skipped ≡ skipped) = rw is at all in
    (known.1, rw known.0 why)
stops_built complete layout (Some x) came skipped rs P (Err (NoRecords lacking)) is all why = absurd why

-- the chains of the records are those of the text
pub chains_read : {X : Type 0} (complete : Bool) (layout : X → Records) (text : Option X) (came : Option Records) (skipped passed : ℕ) (rs : List Record) (r : Result ChainList MapStop) → came ≡ option_map layout text → passed ≡ skipped → AreAll came skipped rs → MatchResult r (AreBuilt rs passed) (StopsBuilding rs) → IfOk r (λ c. IfSome text (λ x. AreReadFrom (asked_where complete (layout x)) c))
chains_read complete layout None came skipped passed rs (Ok c) is same all built = tt
chains_read complete layout (Some x) came skipped passed rs (Ok c) is same all built =
    let known : (records_in (layout x) ≡ rs) × ((layout x).refusal ≡ None) × ((layout x).skipped ≡ skipped) = rw is at all in
    record { no_refusal = known.1; no_fault = rw known.0 built.no_fault; chains = rw known.0 built.chains; skipped_lines = built.skipped_lines ∙ same ∙ sym known.2 }
chains_read complete layout text came skipped passed rs (Err stop) is same all why = tt

-- the map of the records is that of the text
pub map_read : {X : Type 0} (complete : Bool) (layout : X → Records) (text : Option X) (came : Option Records) (skipped passed : ℕ) (rs : List Record) (r : Result TheMap MapStop) → came ≡ option_map layout text → passed ≡ skipped → AreAll came skipped rs → lacks (lacking_where complete rs) ≡ false → MatchResult r (AreMapped rs passed) (StopsBuilding rs) → IfOk r (λ m. IfSome text (λ x. IsReadFrom (asked_where complete (layout x)) m))
map_read complete layout None came skipped passed rs (Ok m) is same all none built = tt
map_read complete layout (Some x) came skipped passed rs (Ok m) is same all none built =
    let known : (records_in (layout x) ≡ rs) × ((layout x).refusal ≡ None) × ((layout x).skipped ≡ skipped) = rw is at all in
    record { no_refusal = known.1; no_fault = rw known.0 built.no_fault; none_lacking = rw known.0 none; map = rw known.0 built.map; skipped_lines = built.skipped_lines ∙ same ∙ sym known.2 }
map_read complete layout text came skipped passed rs (Err stop) is same all none why = tt

-- where records are asked for of a type of which there are none, that is why there is no map
pub stops_lacking : {X : Type 0} (complete : Bool) (layout : X → Records) (text : Option X) (came : Option Records) (skipped : ℕ) (rs : List Record) (lacking : Lacking) → came ≡ option_map layout text → AreAll came skipped rs → lacking ≡ lacking_where complete rs → lacks lacking ≡ true → IfSome text (λ x. StopsReading (asked_where complete (layout x)) (NoRecords lacking))
stops_lacking complete layout None came skipped rs lacking is all same some = tt
stops_lacking complete layout (Some x) came skipped rs lacking is all same some =
    let known : (records_in (layout x) ≡ rs) × ((layout x).refusal ≡ None) × ((layout x).skipped ≡ skipped) = rw is at all in
    (known.1, rw known.0 same, some)
