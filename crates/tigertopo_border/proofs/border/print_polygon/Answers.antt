use Rattle.std.proofs.Common.{arith}
use Rattle.tl_cert_output.proofs.PageLemmas.{nothing, as_text}
use Rattle.tigertopo_border.proofs.PrintLemmas.{polygon_text, no_polygon_text}
use Rattle.tigertopo_border.proofs.border.print_polygon.Goals as goal

pub returns-then-polygons-gt0 : goal.returns-then-polygons-gt0
returns-then-polygons-gt0 g c =
    let page = g.met.P.Page.adding in
    as_text page c.print_point_line.ensures (rw c.border_key.ensures (polygon_text c.args.name c.args.map.now.polygons c.polygon.result c.polygon.ensures))

pub returns-else-polygons-gt0 : goal.returns-else-polygons-gt0
returns-else-polygons-gt0 g c =
    let page = g.met.P.Page.adding in
    as_text page (nothing page) (no_polygon_text c.args.name c.args.map.now.polygons (omega (arith, c.polygons.ensures, c.if-polygons-gt0.false)))
