use Rattle.std.proofs.Common.{rules}
use Rattle.tl_cert_output.proofs.PageLemmas.{both, as_text}
use Rattle.tigertopo_pictures.proofs.SvgLemmas.TextLemmas.{stroke_parts}
use Rattle.tigertopo_pictures.proofs.svg.pairs.print_stroke.Goals as goal

pub returns-in-Some-Some : goal.returns-in-Some-Some
returns-in-Some-Some g c =
    let page = g.met.P.Page.adding in
    as_text page (both page c.print_start.ensures c.print_pair.ensures) (stroke_parts c.args.stroke _ _ (search rules) (search rules))

pub returns-in_default : goal.returns-in_default
returns-in_default g c =
    let page = g.met.P.Page.adding in
    as_text page (both page c.print_start.ensures c.print_pair-in_default.ensures) (stroke_parts c.args.stroke _ _ (search rules) (search rules))
