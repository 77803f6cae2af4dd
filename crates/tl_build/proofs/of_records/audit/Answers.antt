use Rattle.std.specs.Option.{IfSome}
use Rattle.std.proofs.Common.{◌↔◌, false}
use Rattle.std.proofs.lemmas.Option.{IfSome_then}
use Rattle.tl_record.specs.Layout.{tiger_2006}
use Rattle.tl_record.specs.Records.{lines_read}
use Rattle.tl_check_verdict.specs.Sound.{IsSoundFor}
use Rattle.tl_check_verdict.specs.Records.{HaveMap}
use Rattle.tl_check_verdict.proofs.Recording.{true_of_records_alone}
use Rattle.tl_build.specs.Auditing.{SaysSound}
use Rattle.tl_build.proofs.Decided.{sound_leads, faulty_leads, audit_leads, have_alone, have_for}
use Rattle.tl_build.proofs.of_records.audit.Goals as goal

pub returns-clause-sound : goal.returns-clause-sound
returns-clause-sound g c =
    sound_leads c.audit_with.result _ _ c.audit_with.ensures.sound
    (λ is. IfSome_then (g.R.Source.remaining c.args.records.now) is (λ t have. have_alone _ have))

pub returns-clause-fault : goal.returns-clause-fault
returns-clause-fault g c =
    faulty_leads c.audit_with.result _ _ c.audit_with.ensures.fault
    (λ fault is. IfSome_then (g.R.Source.remaining c.args.records.now) is (λ t true. true_of_records_alone (lines_read tiger_2006 t) fault true))

pub returns-clause-exactly : goal.returns-clause-exactly
returns-clause-exactly g c =
    audit_leads c.audit_with.result (λ a. IfSome (g.R.Source.remaining c.args.records.now) (λ text. SaysSound a ↔ HaveMap (lines_read tiger_2006 text) (IsSoundFor false))) _
    c.audit_with.ensures.exactly
    (λ a is. IfSome_then (g.R.Source.remaining c.args.records.now) is (λ t both. ((λ said. have_alone _ (both.0 said)), (λ have. both.1 (have_for _ have)))))
