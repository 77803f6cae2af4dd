use Rattle.std.proofs.Common.{◌≡◌, length, arith}
use Rattle.tl_cert_output.proofs.PageLemmas.{both, as_text}
use Rattle.tigertopo_pictures.proofs.SvgLemmas.FillLemmas.{one_filled}
use Rattle.tigertopo_pictures.proofs.svg.filled.print_polygons.Goals as goal

pub loop-polygon-preserved : goal.loop-polygon-preserved
loop-polygon-preserved g c =
    let page = g.met.P.Page.adding in
    as_text page (both page c.loop-polygon.invariant c.print_polygon.ensures) (one_filled c.args.frame c.args.map.now.chains c.args.fills.now.filling c.loop-polygon.polygon)

pub print_polygon-requires : goal.print_polygon-requires
print_polygon-requires g c = record { fills = c.requires; polygon = omega (arith, c.loop-polygon-test.true, c.polygons-polygon-end.ensures) }

pub returns : goal.returns
returns g c =
    let all : c.loop-polygon.polygon ≡ length c.args.map.now.polygons = omega (arith, c.loop-polygon.auto.polygon-end, c.loop-polygon-test.false, c.polygons-polygon-end.ensures) in
    rw all at c.loop-polygon.invariant
