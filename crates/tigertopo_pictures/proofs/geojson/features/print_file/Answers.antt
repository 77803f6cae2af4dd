use Rattle.std.proofs.Common.{refl}
use Rattle.tl_cert_output.proofs.PageLemmas.{both, as_text}
use Rattle.tigertopo_pictures.proofs.geojson.features.print_file.Goals as goal

pub returns-in-Some : goal.returns-in-Some
returns-in-Some g c =
    let page = g.met.P.Page.adding in
    as_text page (both page c.add.ensures c.print_string.ensures) (rw (c.in-Some.is, c.as_bytes.ensures.value) refl)
