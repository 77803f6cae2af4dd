use Rattle.tigertopo_border.specs.Spelling.{point_line}
use Rattle.tl_cert_output.proofs.PageLemmas.{both}
use Rattle.tigertopo_border.proofs.lines.print_point_line.Goals as goal

pub returns : goal.returns
unfolding point_line
returns g c =
    let page = g.met.P.Page.adding in
    both page (both page (both page (both page c.add.ensures c.print_blanks.ensures) c.print_key.ensures) c.print_point.ensures) c.add-2.ensures
