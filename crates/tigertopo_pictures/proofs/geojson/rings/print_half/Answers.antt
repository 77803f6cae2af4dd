use Rattle.std.proofs.Common.{refl, to_z-of_z}
use Rattle.tl_cert_output.proofs.PageLemmas.{both, as_text}
use Rattle.tigertopo_pictures.proofs.geojson.rings.print_half.Goals as goal

pub returns : goal.returns
returns g c =
    let page = g.met.P.Page.adding in
    let back = to_z-of_z c.ranges.doubled in
    as_text page (both page (both page c.add.ensures c.number.ensures) c.add-2.ensures) (rw (c.sign.ensures, c.point_five.ensures, c.unsigned_abs-size.ensures.value, back) refl)
