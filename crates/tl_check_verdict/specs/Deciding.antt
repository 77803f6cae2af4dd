-- Answers that tell whether a map is sound.
use Rattle.std.specs.Prelude.{Ok, Err, ⊤}
use Rattle.tl_check_verdict.specs.declared.verdict.Verdict.{Verdict}
use Rattle.tl_check_verdict.specs.declared.verdict.Verdict.TheVariants as verdict
use Rattle.tl_cert_output.specs.declared.stop.Stop.TheVariants.{Record, Memory, Device, Budget}
use Rattle.tl_check_verdict.specs.Verdicts.{Answer}

-- the verdict is that the map is sound
abbrev pub SaysSound : Verdict → Type 0
SaysSound (verdict.Sound report) = ⊤
SaysSound (verdict.MapFault fault) = ⊥
SaysSound (verdict.CertFault fault) = ⊥

-- the answer is that the map is sound, or a stop for want of memory or of a device; or one of the budget, and it was `spent`
abbrev pub PassesOrStops : Type 0 → Answer → Type 0
PassesOrStops spent (Ok verdict) = SaysSound verdict
PassesOrStops spent (Err (Record line cause)) = ⊥
PassesOrStops spent (Err Memory) = ⊤
PassesOrStops spent (Err Device) = ⊤
PassesOrStops spent (Err Budget) = spent
