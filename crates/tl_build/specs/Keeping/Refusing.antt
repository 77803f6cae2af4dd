-- Answers where records have no map.
use Rattle.std.specs.Prelude.{Result, Ok, Err}
use Rattle.tl_map_rules.specs.declared.fault.MapStop.{MapStop}
use Rattle.tl_check_verdict.specs.declared.fault.MapFault.{MapFault}
use Rattle.tl_cert_output.specs.declared.stop.Stop.{Stop}
use Rattle.tl_check_verdict.specs.Stops.{unmapped}
use Rattle.tl_build.specs.declared.answer.Audit.TheVariants as audit
use Rattle.tl_build.specs.Auditing.{Auditing}

-- the answer where the records have no map: their fault, or why they aren't read
abbrev pub audit_of : Result MapFault Stop → Auditing
audit_of (Ok fault) = Ok (audit.Fault fault)
audit_of (Err why) = Err why

abbrev pub refusal_of : MapStop → Auditing
refusal_of why = audit_of (unmapped why)
