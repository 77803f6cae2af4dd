use Rattle.tigertopo_border.specs.Spelling.{shape_line}
use Rattle.tl_cert_output.proofs.PageLemmas.{both}
use Rattle.tigertopo_border.proofs.lines.print_shape_line.Goals as goal

pub returns : goal.returns
unfolding shape_line
returns g c =
    let page = g.met.P.Page.adding in
    both page (both page (both page (both page c.add.ensures c.print_number.ensures) c.print_number-2.ensures) c.print_pairs.ensures) c.add-2.ensures
