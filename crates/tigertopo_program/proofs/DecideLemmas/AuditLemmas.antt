-- What an audit decides.
use Rattle.std.proofs.Common.{ℕ, List, Option, Some, None}
use Rattle.std.specs.Option.{IfSome}
use Rattle.tl_record.specs.declared.options.Options.{Options}
use Rattle.tl_record.specs.Layout.{layout_with}
use Rattle.tl_record.specs.Records.{records_of}
use Rattle.tl_cert_output.specs.declared.stop.Stop.{Stop}
use Rattle.tl_cert_output.specs.declared.stop.Stop.TheVariants.{Record, Memory, Device, Budget}
use Rattle.tl_check_verdict.specs.declared.verdict.Report.{Report}
use Rattle.tl_check_verdict.specs.declared.verdict.Verdict.TheVariants.{Sound}
use Rattle.tl_check_verdict.specs.Sound.{IsSoundFor}
use Rattle.tl_check_verdict.specs.Records.{HaveMap}
use Rattle.tl_check_verdict.specs.Verdicts.{IsReport}
use Rattle.tl_check_verdict.proofs.OneMap.{both, weaker}
use Rattle.tl_build.specs.Auditing.{IsNotBudget, MayStopAudit}
use Rattle.tigertopo_files.specs.World.{MayStop}
use Rattle.tigertopo_program.specs.Records.{IsAudited, StopsRecords}

module _ (options : Options) where
  -- what is known of the records is known of their map
  pub is_audited : (known : Option (List ℕ)) (report : Report) → IfSome known (λ text. HaveMap (records_of (layout_with options) text) (IsSoundFor options.faces))
      → IfSome known (λ text. HaveMap (records_of (layout_with options) text) (λ m. IsReport m report)) → IsAudited options known (Sound report)
  is_audited None report sound reported = tt
  is_audited (Some text) report sound reported = weaker (records_of (layout_with options) text) _ _ (λ m so. record { sound = so.0; reported = so.1 }) (both (records_of (layout_with options) text) _ _ sound reported)

  -- why nothing is decided
  pub audit_stops : (known : Option (List ℕ)) (stop : Stop) → IfSome known (λ text. MayStopAudit (records_of (layout_with options) text) stop) → IsNotBudget stop → MayStop (StopsRecords (layout_with options) known) stop
  audit_stops known (Record line cause) stops never = stops
  audit_stops known Memory stops never = tt
  audit_stops known Device stops never = tt
  audit_stops known Budget stops never = absurd never
