use Rattle.std.proofs.Common.{refl, to_z-of_z}
use Rattle.tigertopo_pictures.specs.Geojson.Positions.{degrees_text}
use Rattle.tl_cert_output.proofs.PageLemmas.{both, as_text}
use Rattle.tigertopo_pictures.proofs.geojson.positions.print_degrees.Goals as goal

pub returns : goal.returns
unfolding degrees_text
returns g c =
    let page = g.met.P.Page.adding in
    let back = to_z-of_z c.ranges.millionths in
    as_text page (both page (both page (both page c.add.ensures c.number.ensures) c.add-2.ensures) c.add-3.ensures)
    (rw (c.sign.ensures, c.places.ensures, c.unsigned_abs-size.ensures.value, back) refl)
