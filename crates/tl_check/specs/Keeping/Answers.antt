-- Answers, before anything is shown of them.
use Rattle.std.specs.Prelude.{Result, Ok, Err}
use Rattle.tl_check_verdict.specs.declared.verdict.Verdict.TheVariants as verdict
use Rattle.tl_cert_output.specs.declared.stop.Stop.{Stop}
use Rattle.tl_cert_output.specs.declared.stop.Stop.TheVariants as stop
use Rattle.tl_check_verdict.specs.declared.fault.MapFault.{MapFault}
use Rattle.tl_check_verdict.specs.declared.fault.CertFault.{CertFault}
use Rattle.tl_check_verdict.specs.Stops.{unmapped, unread}
use Rattle.tl_check.specs.declared.state.Halt.{Halt}
use Rattle.tl_check.specs.declared.state.Halt.TheVariants as halt
use Rattle.tl_map_rules.specs.declared.fault.MapStop.{MapStop}
use Rattle.tl_cert.specs.declared.stop.CertStop.{CertStop}
use Rattle.tl_check_verdict.specs.Verdicts.{Answer}

-- the answer where no further part is looked at
abbrev pub answer_of : Halt → Answer
answer_of (halt.Fault fault) = Ok (verdict.MapFault fault)
answer_of halt.Memory = Err stop.Memory
answer_of halt.Budget = Err stop.Budget

-- an answer that is a fault, or why there is none
abbrev pub of_map : Result MapFault Stop → Answer
of_map (Ok fault) = Ok (verdict.MapFault fault)
of_map (Err why) = Err why

abbrev pub of_text : Result CertFault Stop → Answer
of_text (Ok fault) = Ok (verdict.CertFault fault)
of_text (Err why) = Err why

-- the answer where the certificate can't be read on
abbrev pub stop_of : CertStop → Answer
stop_of why = of_text (unread why)

-- the answer where the records have no map
abbrev pub refusal_of : MapStop → Answer
refusal_of why = of_map (unmapped why)
