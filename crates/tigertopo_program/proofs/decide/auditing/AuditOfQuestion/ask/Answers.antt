use Rattle.tl_record.specs.Layout.{layout_with}
use Rattle.tl_cert_output.proofs.StopLemmas.{by_stop}
use Rattle.tigertopo_files.specs.World.{MayStop}
use Rattle.tigertopo_program.specs.Records.{StopsRecords}
use Rattle.tigertopo_program.proofs.DecideLemmas.AuditLemmas.{is_audited, audit_stops}
use Rattle.tigertopo_program.proofs.decide.auditing.AuditOfQuestion.ask.Goals as goal

pub returns-in-Sound-clause-answered : goal.returns-in-Sound-clause-answered
returns-in-Sound-clause-answered g c =
    is_audited c.args.self.now.options _ c.in-Sound.report (rw c.in-Sound.is at c.in_ok-report.ensures.sound) (rw c.in-Sound.is at c.in_ok-report.ensures.report)

pub returns-in_err-report-clause-stopped : goal.returns-in_err-report-clause-stopped
returns-in_err-report-clause-stopped g c =
    let known = g.R.Source.remaining c.args.records.now in
    by_stop c.from_residual.result c.in_err-report.field-0.0 (MayStop (StopsRecords (layout_with c.args.self.now.options) known)) c.from_residual.ensures.1
    (audit_stops c.args.self.now.options known c.in_err-report.field-0.0 c.in_err-report.ensures.stops c.in_err-report.ensures.budget)
