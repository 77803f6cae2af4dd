use Rattle.std.proofs.Common.{ap, decimal}
use Rattle.tl_cert_output.proofs.PageLemmas.{both, as_text}
use Rattle.tigertopo_pictures.specs.Svg.Fills.{fill_head}
use Rattle.tigertopo_pictures.proofs.svg.text.print_fill_head.Goals as goal

pub returns : goal.returns
unfolding fill_head
returns g c =
    let page = g.met.P.Page.adding in
    both page (both page c.add.ensures (as_text page c.number.ensures (ap decimal c.hue.ensures))) c.add-2.ensures
