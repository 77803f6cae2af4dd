use Rattle.std.proofs.Common.{codes, decimal}
use Rattle.tl_cert_output.proofs.PageLemmas.{both, as_text}
use Rattle.tl_list_text.proofs.LineLemmas.{report_parts}
use Rattle.tl_list_text.proofs.print.print_report.Goals as goal

pub returns : goal.returns
returns g c =
    let page = g.met.P.Page.adding in
    as_text page (both page (both page (both page (both page (both page (both page (both page (both page (both page (both page (both page (both page c.add.ensures c.number.ensures) c.add-2.ensures) c.number-2.ensures) c.add-3.ensures) c.number-3.ensures) c.add-4.ensures) c.number-4.ensures) c.add-5.ensures) c.number-5.ensures) c.add-6.ensures) c.number-6.ensures) c.add-7.ensures) (report_parts (codes "sound chains=") (decimal c.args.report.now.chains) (codes " segments=") (decimal c.args.report.now.segments) (codes " nodes=") (decimal c.args.report.now.nodes) (codes " polygons=") (decimal c.args.report.now.polygons) (codes " landmarks=")
    (decimal c.args.report.now.landmarks) (codes " rings=") (decimal c.args.report.now.rings) (codes "\n"))
