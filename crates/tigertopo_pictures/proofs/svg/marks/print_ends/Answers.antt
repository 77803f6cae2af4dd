use Rattle.std.proofs.Common.{◌∙◌, sym, refl}
use Rattle.tl_cert_output.proofs.PageLemmas.{both, as_text, nothing}
use Rattle.tigertopo_pictures.specs.Svg.Strokes.{strokes_left}
use Rattle.tigertopo_pictures.proofs.SvgLemmas.DrawingLemmas.{shown_if}
use Rattle.tigertopo_pictures.proofs.SvgLemmas.TextLemmas.{ends_parts, no_ends}
use Rattle.tigertopo_pictures.proofs.svg.marks.print_ends.Goals as goal

pub returns-then-is_some : goal.returns-then-is_some
returns-then-is_some g c =
    let page = g.met.P.Page.adding in
    let left = strokes_left c.args.walk.now in
    let shown = sym (shown_if c.next.result left _ left c.args.points.now refl c.next.ensures) ∙ sym c.is_some.ensures ∙ c.if-is_some.true in
    as_text page (both page c.print_dot.ensures c.print_dot-then-is_some.ensures) (ends_parts c.args.frame left c.args.points.now _ _ shown c.requires)

pub returns-else-is_some : goal.returns-else-is_some
returns-else-is_some g c =
    let page = g.met.P.Page.adding in
    let left = strokes_left c.args.walk.now in
    let hidden = sym (shown_if c.next.result left _ left c.args.points.now refl c.next.ensures) ∙ sym c.is_some.ensures ∙ c.if-is_some.false in
    as_text page (nothing page) (no_ends c.args.frame left c.args.points.now hidden)
