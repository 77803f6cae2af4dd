use Rattle.tigertopo_border.specs.Spelling.{sides_line}
use Rattle.tl_cert_output.proofs.PageLemmas.{both}
use Rattle.tigertopo_border.proofs.lines.print_sides_line.Goals as goal

pub returns : goal.returns
unfolding sides_line
returns g c =
    let page = g.met.P.Page.adding in
    both page (both page (both page (both page (both page c.add.ensures c.print_number.ensures) c.print_blanks.ensures) c.print_side.ensures) c.print_side-2.ensures) c.add-2.ensures
