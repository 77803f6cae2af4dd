use Rattle.tigertopo_border.specs.Spelling.{chain_line}
use Rattle.tl_cert_output.proofs.PageLemmas.{both}
use Rattle.tigertopo_border.proofs.lines.print_chain_line.Goals as goal

pub returns : goal.returns
unfolding chain_line
returns g c =
    let page = g.met.P.Page.adding in
    both page (both page (both page (both page (both page c.add.ensures c.print_number.ensures) c.print_blanks.ensures) c.print_point.ensures) c.print_point-2.ensures) c.add-2.ensures
