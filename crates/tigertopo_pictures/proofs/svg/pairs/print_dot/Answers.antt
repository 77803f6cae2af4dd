use Rattle.std.proofs.Common.{◌∙◌, sym}
use Rattle.tl_cert_output.proofs.PageLemmas.{both, as_text, nothing}
use Rattle.tigertopo_pictures.proofs.SvgLemmas.TextLemmas.{dot_parts, no_dot}
use Rattle.tigertopo_pictures.proofs.svg.pairs.print_dot.Goals as goal

pub returns-then-has_inside : goal.returns-then-has_inside
returns-then-has_inside g c =
    let page = g.met.P.Page.adding in
    as_text page (both page c.print_move.ensures c.add.ensures) (dot_parts c.args.frame c.args.p _ (sym c.has_inside.ensures ∙ c.if-has_inside.true) c.spot.ensures)

pub returns-else-has_inside : goal.returns-else-has_inside
returns-else-has_inside g c =
    let page = g.met.P.Page.adding in
    as_text page (nothing page) (no_dot c.args.frame c.args.p (sym c.has_inside.ensures ∙ c.if-has_inside.false))
