use Rattle.tigertopo_pictures.specs.Geojson.Features.{landmark_text}
use Rattle.tl_cert_output.proofs.PageLemmas.{both}
use Rattle.tigertopo_pictures.proofs.geojson.landmarks.print_landmark.Goals as goal

pub returns : goal.returns
unfolding landmark_text
returns g c =
    let page = g.met.P.Page.adding in
    both page (both page (both page (both page (both page (both page (both page (both page c.add.ensures c.print_position.ensures) c.add-2.ensures) c.number.ensures) c.add-3.ensures) c.print_keys.ensures) c.add-4.ensures) c.print_file.ensures) c.add-5.ensures
