-- What reading the chains or the map of a text answers.
use Rattle.std.specs.Prelude.{◌≡◌, ℕ, ⊤, true, false, List, map, Some, None, Result, Ok, Err}
use Rattle.tl_record.specs.declared.record.Record.{Record}
use Rattle.tl_record.specs.declared.stop.ReadStop.{ReadStop}
use Rattle.tl_record.specs.declared.stop.ReadStop.TheVariants as read
use Rattle.tl_record.specs.Failures.{one_more}
use Rattle.tl_record.specs.Records.{Records}
use Rattle.tl_map_rules.specs.declared.fault.RecordFault.{RecordFault}
use Rattle.tl_map_rules.specs.declared.fault.MapStop.{MapStop}
use Rattle.tl_map_rules.specs.declared.fault.MapStop.TheVariants.{Refused, Device, Memory, Fault, NoRecords}
use Rattle.tl_map_county.specs.Chains.{ChainList}
use Rattle.tl_map_rules.specs.ChainsOf.{AreChainsOf}
use Rattle.tl_map_rules.specs.Faults.{IsTrueOf, HaveNoChainFault, HaveNoFault}
use Rattle.tl_map_rules.specs.declared.lacking.Lacking.{Lacking}
use Rattle.tl_map_rules.specs.Lacking.{lacking_where, lacks}
use Rattle.tl_map_county.specs.TheMap.{TheMap}
use Rattle.tl_map_rules.specs.MapOf.{IsMapOf}

-- the records, without the numbers of their lines
abbrev pub records_in : Records → List Record
records_in all = map (λ entry. entry.1) all.entries

-- of which of the types 1, I and P there is no record, where records of each are asked for
abbrev pub lacking_of : Records → Lacking
lacking_of all = lacking_where all.complete (records_in all)

-- the chains are those of the text: no line is refused, and its records have no fault of the chains
pub record AreReadFrom (all : Records) (c : ChainList) : Type 0 where
  pub no_refusal : all.refusal ≡ None
  pub no_fault : HaveNoChainFault (records_in all)
  pub chains : AreChainsOf (records_in all) c.chains
  pub skipped_lines : c.skipped ≡ all.skipped

-- the map is that of the text: no line is refused, its records have no fault, and where records of each of the types 1, I and P are asked
-- for, there are some
pub record IsReadFrom (all : Records) (m : TheMap) : Type 0 where
  pub no_refusal : all.refusal ≡ None
  pub no_fault : HaveNoFault (records_in all)
  pub none_lacking : lacks (lacking_of all) ≡ false
  pub map : IsMapOf (records_in all) m
  pub skipped_lines : m.skipped ≡ all.skipped

-- why the text gives no map: a read failed, memory was refused, this line is the first that is refused, or none is
-- refused and the records have the fault, or there are none of some type that is asked for
abbrev pub StopsReading : Records → MapStop → Type 0
StopsReading all Device = Unit {0}
StopsReading all Memory = Unit {0}
StopsReading all (Refused line cause) = all.refusal ≡ Some (line, cause)
StopsReading all (Fault fault) = (all.refusal ≡ None) × IsTrueOf (records_in all) fault
StopsReading all (NoRecords lacking) = (all.refusal ≡ None) × (lacking ≡ lacking_of all) × (lacks lacking ≡ true)

-- where a fault is why there is no map, it is such a fault
abbrev pub IfFault : (RecordFault → Type 0) → MapStop → Type 0
IfFault P Device = ⊤
IfFault P Memory = ⊤
IfFault P (Refused line cause) = ⊤
IfFault P (Fault fault) = P fault
IfFault P (NoRecords lacking) = ⊤

-- `Device` is answered where a read failed, and nowhere else; the count of failures goes from old to new
abbrev pub TellsDevice : {T : Type 0} → ℕ → ℕ → Result T MapStop → Type 0
TellsDevice old new (Ok made) = new ≡ old
TellsDevice old new (Err Device) = new ≡ one_more old
TellsDevice old new (Err Memory) = new ≡ old
TellsDevice old new (Err (Refused line cause)) = new ≡ old
TellsDevice old new (Err (Fault fault)) = new ≡ old
TellsDevice old new (Err (NoRecords lacking)) = new ≡ old

-- what a reader's stop is here
abbrev pub stop_of : ReadStop → MapStop
stop_of (read.Refused line cause) = Refused line cause
stop_of read.Device = Device
