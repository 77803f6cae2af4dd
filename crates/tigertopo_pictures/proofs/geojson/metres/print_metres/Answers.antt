use Rattle.std.proofs.Common.{refl, to_z-of_z}
use Rattle.tl_cert_output.proofs.PageLemmas.{both, as_text}
use Rattle.tigertopo_pictures.proofs.geojson.metres.print_metres.Goals as goal

pub returns : goal.returns
returns g c =
    let page = g.met.P.Page.adding in
    let back = to_z-of_z c.ranges.doubled in
    as_text page (both page c.add.ensures c.number.ensures) (rw (c.sign.ensures, c.has_sign.ensures, c.metres-whole.ensures, c.unsigned_abs.ensures.value, back) refl)
