use Rattle.std.proofs.Common.{refl, arith}
use Rattle.std.proofs.lemmas.Option.{slice_get_past}
use Rattle.tl_cert_output.proofs.PageLemmas.{as_text}
use Rattle.tigertopo_pictures.proofs.geojson.features.print_side.Goals as goal
use Rattle.tigertopo_pictures.proofs.geojson.features.print_side.Goals.{in_default-via-in-Polygon+else-number-polygons, in_default-via-in_default}

pub polygon-requires : goal.polygon-requires
polygon-requires g c = omega (arith, c.if-number-polygons.true, c.polygons.ensures)

pub returns-in-Polygon : goal.returns-in-Polygon
returns-in-Polygon g c =
    let page = g.met.P.Page.adding in
    rw c.in-Polygon.is (as_text page c.print_key.ensures (rw c.polygon.ensures refl))

pub returns-in_default : goal.returns-in_default
returns-in_default g c =
    let page = g.met.P.Page.adding in
    elim c.in_default.branch [
      | in_default-via-in-Polygon+else-number-polygons w ↦
          let beyond = slice_get_past c.args.map.now.polygons w.in-Polygon.number (omega (arith, w.if-number-polygons.false, w.polygons.ensures)) in
          rw w.in-Polygon.is (as_text page c.add.ensures (rw beyond refl))
      | in_default-via-in_default w ↦ rw w.in_default.is c.add.ensures
    ]
