use Rattle.tigertopo_faults.specs.Geojson.Places.{point_text}
use Rattle.tl_cert_output.proofs.PageLemmas.{both}
use Rattle.tigertopo_faults.proofs.geojson.place.print_point.Goals as goal

pub returns : goal.returns
unfolding point_text
returns g c =
    let page = g.met.P.Page.adding in
    both page (both page c.add.ensures c.print_position.ensures) c.add-2.ensures
