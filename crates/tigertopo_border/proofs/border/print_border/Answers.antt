use Rattle.tl_cert_output.proofs.PageLemmas.{both, as_text}
use Rattle.tigertopo_border.proofs.PrintLemmas.{border_parts}
use Rattle.tigertopo_border.proofs.border.print_border.Goals as goal

pub returns : goal.returns
returns g c =
    let page = g.met.P.Page.adding in
    as_text page (both page c.print_chains.ensures c.print_polygon.ensures) (border_parts c.args.name c.args.map.now)
