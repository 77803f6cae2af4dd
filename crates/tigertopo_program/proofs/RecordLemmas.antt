-- What is answered of records.
use Rattle.std.proofs.Common.{◌≡◌, ℕ, List, Option, Ok, refl, sym, subst}
use Rattle.std.specs.Bool.{⊤}
use Rattle.std.specs.Option.{IfSome}
use Rattle.std.specs.Prelude.{IfOk}
use Rattle.tl_record.specs.declared.layout.Layout.{Layout}
use Rattle.tl_record.specs.Records.{records_of}
use Rattle.tl_map_rules.specs.declared.fault.RecordFault.{RecordFault}
use Rattle.tl_map_rules.specs.declared.fault.MapStop.{MapStop}
use Rattle.tl_map_rules.specs.declared.fault.MapStop.TheVariants as map_stop
use Rattle.tl_map_rules.specs.Reading.{IfFault, StopsReading}
use Rattle.tl_cert_output.specs.Writing.{line_of}
use Rattle.tl_check_verdict.specs.declared.fault.MapFault.{MapFault as TheMapFault}
use Rattle.tl_check_verdict.specs.Messages.{map_fault_text}
use Rattle.tl_check_verdict.specs.Stops.{unmapped}
use Rattle.tigertopo_program.specs.Answers.{TellsRecordFault}
use Rattle.tigertopo_program.specs.Records.{IsOfRecords}

of_stop : (layout : Layout) (known : Option (List ℕ)) (sought : RecordFault → Type 0) (stop : MapStop) → IfSome known (λ text. StopsReading (records_of layout text) stop) → IfFault sought stop
    → IfOk (unmapped stop) (IsOfRecords layout known sought)
of_stop layout known sought map_stop.Device stops of = tt
of_stop layout known sought map_stop.Memory stops of = tt
of_stop layout known sought (map_stop.Refused line cause) stops of = tt
of_stop layout known sought (map_stop.Fault fault) stops of = (of, stops)
of_stop layout known sought (map_stop.NoRecords lacking) stops of = stops

-- the fault of records that have no map is theirs
pub fault_of : (layout : Layout) (known : Option (List ℕ)) (sought : RecordFault → Type 0) (stop : MapStop) (fault : TheMapFault) → Ok fault ≡ unmapped stop
    → IfSome known (λ text. StopsReading (records_of layout text) stop) → IfFault sought stop → IsOfRecords layout known sought fault
fault_of layout known sought stop fault is stops of = subst (λ why. IfOk why (IsOfRecords layout known sought)) (sym is) (of_stop layout known sought stop stops of)

pub any_fault : (stop : MapStop) → IfFault (λ fault. ⊤) stop
any_fault map_stop.Device = tt
any_fault map_stop.Memory = tt
any_fault (map_stop.Refused line cause) = tt
any_fault (map_stop.Fault fault) = tt
any_fault (map_stop.NoRecords lacking) = tt

-- it is told by its line
pub tells_fault : (layout : Layout) (known : Option (List ℕ)) (sought : RecordFault → Type 0) (fault : TheMapFault) → IsOfRecords layout known sought fault
    → TellsRecordFault layout known sought 1 (line_of (map_fault_text fault))
tells_fault layout known sought fault of = record { fault = fault; of = of; is = refl; line = refl }
