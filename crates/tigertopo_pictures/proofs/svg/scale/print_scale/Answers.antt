use Rattle.std.proofs.Common.{◌∙◌, ap}
use Rattle.tl_cert_output.proofs.PageLemmas.{as_text}
use Rattle.tigertopo_pictures.specs.Svg.Texts.{scale_of, scales, scale_line}
use Rattle.tigertopo_pictures.proofs.svg.scale.print_scale.Goals as goal

pub returns : goal.returns
unfolding scales
returns g c =
    let page = g.met.P.Page.adding in
    as_text page c.print_scale_line.ensures (ap (scale_line c.args.frame) (c.scale_of.ensures ∙ ap (λ s. scale_of s scales) c.side.ensures.value))
