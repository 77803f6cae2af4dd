use Rattle.std.proofs.Common.{refl, to_z-of_z}
use Rattle.tl_cert_output.proofs.PageLemmas.{as_text}
use Rattle.tigertopo_faults.proofs.geojson.place.print_signed.Goals as goal

pub returns : goal.returns
returns g c =
    let page = g.met.P.Page.adding in
    let back = to_z-of_z c.ranges.number in as_text page c.number.ensures (rw back refl)
