use Rattle.std.proofs.Common.{refl}
use Rattle.tl_cert_output.proofs.PageLemmas.{both, as_text}
use Rattle.tigertopo_pictures.specs.Svg.Texts.{size_text}
use Rattle.tigertopo_pictures.proofs.svg.text.print_size.Goals as goal

pub returns : goal.returns
unfolding size_text
returns g c =
    let page = g.met.P.Page.adding in
    as_text page (both page (both page (both page (both page c.add.ensures c.number.ensures) c.add-2.ensures) c.number-2.ensures) c.add-3.ensures) (rw (c.reach_east.ensures.value, c.reach_south.ensures.value, c.side-side.ensures.value) refl)
