-- What is told where a check of a certificate ends before its last part.
use Rattle.std.proofs.Common.{◌≡◌, ℕ, List, Option, Err, ap, ◌∙◌}
use Rattle.tl_record.specs.Failures.{one_more}
use Rattle.tl_map_county.specs.TheMap.{TheMap}
use Rattle.tl_cert.specs.Certificates.{TheCertificate}
use Rattle.tl_cert.specs.declared.place.NextPart.{NextPart}
use Rattle.tl_cert.specs.declared.reader.Standing.TheVariants.{Reading}
use Rattle.tl_cert.specs.declared.stop.CertStop.{CertStop}
use Rattle.tl_cert.specs.declared.stop.CertStop.TheVariants as stop
use Rattle.tl_cert.specs.Reading.{TellsFailure}
use Rattle.tl_cert_output.specs.Stops.{TellsDevice}
use Rattle.tl_check.specs.declared.state.Halt.{Halt}
use Rattle.tl_check.specs.declared.state.Halt.TheVariants as halt
use Rattle.tl_check.specs.Keeping.Answers.{answer_of, stop_of}
use Rattle.tl_check.specs.Keeping.Parts.{MayHalt, MayEnd}
use Rattle.tl_check.specs.Keeping.Streams.{Decides, Concludes}

-- a stop, where no read had failed before
pub stopped_tells : (why : CertStop) (place : NextPart) (first old new : ℕ) → TellsFailure (Reading place) old new (Err why) → old ≡ first → TellsDevice first new (stop_of why)
stopped_tells (stop.Text line) place first old new tells is = tells ∙ is
stopped_tells stop.Memory place first old new tells is = tells ∙ is
stopped_tells stop.Device place first old new tells is = tells ∙ ap one_more is

-- an answer where no further part is looked at
pub answered_tells : (why : Halt) (old new : ℕ) → new ≡ old → TellsDevice old new (answer_of why)
answered_tells (halt.Fault fault) old new is = is
answered_tells halt.Memory old new is = is
answered_tells halt.Budget old new is = is

pub halted_decides : (m : TheMap) (budget : ℕ) (text : Option (List ℕ)) (why : Halt) → MayHalt m budget why → Decides m budget text (answer_of why)
halted_decides m budget text (halt.Fault fault) may = may
halted_decides m budget text halt.Memory may = tt
halted_decides m budget text halt.Budget may = may

pub ended_decides : (m : TheMap) (budget : ℕ) (text : Option (List ℕ)) (why : Halt) → MayEnd m why → Decides m budget text (answer_of why)
ended_decides m budget text (halt.Fault fault) may = may
ended_decides m budget text halt.Memory may = tt
ended_decides m budget text halt.Budget may = absurd may

pub ended_concludes : (m : TheMap) (c : TheCertificate) (why : Halt) → MayEnd m why → Concludes m c (answer_of why)
ended_concludes m c (halt.Fault fault) may = may
ended_concludes m c halt.Memory may = tt
ended_concludes m c halt.Budget may = absurd may
