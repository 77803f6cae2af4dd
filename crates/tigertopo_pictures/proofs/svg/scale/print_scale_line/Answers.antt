use Rattle.std.proofs.Common.{refl}
use Rattle.tl_cert_output.proofs.PageLemmas.{both, as_text}
use Rattle.tigertopo_pictures.specs.Svg.Texts.{scale_line}
use Rattle.tigertopo_pictures.proofs.svg.scale.print_scale_line.Goals as goal

pub returns : goal.returns
unfolding scale_line
returns g c =
    let page = g.met.P.Page.adding in
    as_text page (both page (both page (both page (both page (both page (both page c.add.ensures c.number.ensures) c.add-2.ensures) c.number-2.ensures) c.add-3.ensures) c.print_metres.ensures) c.add-4.ensures) (rw c.scale_tenths-tenths.ensures.value refl)
