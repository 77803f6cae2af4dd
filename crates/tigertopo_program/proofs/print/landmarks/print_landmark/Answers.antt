use Rattle.tl_cert_output.proofs.PageLemmas.{both}
use Rattle.tigertopo_program.specs.Print.Printing.{landmark_text}
use Rattle.tigertopo_program.proofs.print.landmarks.print_landmark.Goals as goal

pub returns : goal.returns
unfolding landmark_text
returns g c =
    let page = g.met.P.Page.adding in
    both page (both page (both page c.print_place.ensures c.add.ensures) c.print_listed.ensures) c.add-2.ensures
