use Rattle.tl_cert_output.proofs.PageLemmas.{both}
use Rattle.tigertopo_pictures.specs.Svg.Fills.{fill_text}
use Rattle.tigertopo_pictures.proofs.svg.filled.print_fill.Goals as goal

pub returns : goal.returns
unfolding fill_text
returns g c ns goes =
    let page = g.met.P.Page.adding in
    both page (both page c.print_fill_head.ensures (c.print_items.ensures ns goes)) c.add.ensures
