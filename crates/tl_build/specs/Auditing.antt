-- What an audit of records says, by its kinds.
use Rattle.std.specs.Prelude.{◌≡◌, Some, Result, Ok, ⊤}
use Rattle.tl_record.specs.Records.{Records}
use Rattle.tl_check_verdict.specs.declared.fault.MapFault.{MapFault}
use Rattle.tl_check_verdict.specs.declared.verdict.Report.{Report}
use Rattle.tl_cert_output.specs.declared.stop.Stop.{Stop}
use Rattle.tl_cert_output.specs.declared.stop.Stop.TheVariants.{Record, Memory, Device, Budget}
use Rattle.tl_build.specs.declared.answer.Audit.{Audit}
use Rattle.tl_build.specs.declared.answer.Audit.TheVariants.{Sound, Fault}

abbrev pub Auditing : Type 0
Auditing = Result Audit Stop

-- if the answer is that the map is sound, the report is so
abbrev pub IfSound : Auditing → (Report → Type 0) → Type 0
IfSound (Ok (Sound report)) P = P report
IfSound other P = ⊤

-- so that is true of the map, if the answer is that it is sound
abbrev pub OnSound : Auditing → Type 0 → Type 0
OnSound auditing P = IfSound auditing (λ report. P)

-- if the answer is a fault, the fault is so
abbrev pub IfFaulty : Auditing → (MapFault → Type 0) → Type 0
IfFaulty (Ok (Fault fault)) P = P fault
IfFaulty other P = ⊤

-- the answer is that the map is sound
abbrev pub SaysSound : Audit → Type 0
SaysSound (Sound report) = ⊤
SaysSound (Fault fault) = ⊥

-- the stop is that memory was refused
abbrev pub IsMemoryStop : Stop → Type 0
IsMemoryStop (Record line cause) = ⊥
IsMemoryStop Memory = ⊤
IsMemoryStop Device = ⊥
IsMemoryStop Budget = ⊥

-- the stop isn't for a spent budget: an audit has none
abbrev pub IsNotBudget : Stop → Type 0
IsNotBudget (Record line cause) = ⊤
IsNotBudget Memory = ⊤
IsNotBudget Device = ⊤
IsNotBudget Budget = ⊥

-- why records aren't decided: this line is the first that is refused, memory was refused, or a read failed
abbrev pub MayStopAudit : Records → Stop → Type 0
MayStopAudit all (Record line cause) = all.refusal ≡ Some (line, cause)
MayStopAudit all Memory = ⊤
MayStopAudit all Device = ⊤
MayStopAudit all Budget = ⊥
