use Rattle.std.proofs.Common.{◌∙◌, sym, ap, length, arith}
use Rattle.std.proofs.lemmas.List.{length-map}
use Rattle.tl_cert_output.proofs.PageLemmas.{as_text, nothing}
use Rattle.tigertopo_pictures.specs.Walks.{walk_polygon}
use Rattle.tigertopo_pictures.specs.Groups.{GoesThrough}
use Rattle.tigertopo_pictures.proofs.WalkLemmas.{many_lists}
use Rattle.tigertopo_pictures.specs.Svg.Fills.{rings_of}
use Rattle.tigertopo_pictures.proofs.SvgLemmas.FillLemmas.{fill_there, fill_none}
use Rattle.tigertopo_pictures.proofs.svg.filled.print_polygon.Goals as goal

pub returns-then-is_filled : goal.returns-then-is_filled
returns-then-is_filled g c =
    let page = g.met.P.Page.adding in
    let chains = c.args.map.now.chains in
    let filling = c.args.fills.now.filling in
    let ns = rings_of chains filling.walks c.args.polygon in
    let each = c.requires.fills.rings.each c.args.polygon c.requires.polygon in
    let goes : GoesThrough c.rings-2.result.now.next c.first-first.result ns = rw (c.rings-2.ensures, c.first-first.ensures, c.rings.ensures) each in
    let here : GoesThrough c.rings-then-is_filled.result.now.next c.first-first.result ns = rw (c.rings-then-is_filled.ensures, c.first-first.ensures, c.rings.ensures) each in
    let around = rw c.walks.ensures at (c.around_walks-rect.ensures ns goes) in
    as_text page (rw c.walks-then-is_filled.ensures at (c.print_fill.ensures ns here))
    (fill_there c.args.frame chains filling c.args.polygon c.around_walks-rect.result around c.colour.result c.colour.ensures (sym c.is_filled.ensures ∙ c.if-is_filled.true))

pub returns-else-is_filled : goal.returns-else-is_filled
returns-else-is_filled g c =
    let page = g.met.P.Page.adding in
    let chains = c.args.map.now.chains in
    let filling = c.args.fills.now.filling in
    let ns = rings_of chains filling.walks c.args.polygon in
    let goes : GoesThrough c.rings-2.result.now.next c.first-first.result ns =
    rw (c.rings-2.ensures, c.first-first.ensures, c.rings.ensures) (c.requires.fills.rings.each c.args.polygon c.requires.polygon) in
    let around = rw c.walks.ensures at (c.around_walks-rect.ensures ns goes) in
    as_text page (nothing page) (fill_none c.args.frame chains filling c.args.polygon c.around_walks-rect.result around (sym c.is_filled.ensures ∙ c.if-is_filled.false))

pub first-first-requires : goal.first-first-requires
first-first-requires g c = rw c.rings.ensures (omega (arith, c.requires.fills.rings.counted, c.requires.polygon))

pub around_walks-rect-requires : goal.around_walks-rect-requires
around_walks-rect-requires g c =
    let fills = c.args.fills.now in
    record {
      walks = rw c.walks.ensures c.requires.fills.filling.walks;
      beside = rw c.rings-2.ensures (omega (arith, c.requires.fills.rings.items, length-map fills.filling.walks (walk_polygon c.args.map.now.chains), many_lists c.walks.result.now, ap length c.walks.ensures));
    }

pub print_fill-requires : goal.print_fill-requires
print_fill-requires g c =
    let fills = c.args.fills.now in
    record {
      walks = rw c.walks-then-is_filled.ensures c.requires.fills.filling.walks;
      beside = rw c.rings-then-is_filled.ensures (omega (arith, c.requires.fills.rings.items, length-map fills.filling.walks (walk_polygon c.args.map.now.chains), many_lists c.walks-then-is_filled.result.now, ap length c.walks-then-is_filled.ensures));
    }

pub colour-requires : goal.colour-requires
colour-requires g c = omega (arith, c.requires.fills.filling.colours.all, c.requires.polygon)
