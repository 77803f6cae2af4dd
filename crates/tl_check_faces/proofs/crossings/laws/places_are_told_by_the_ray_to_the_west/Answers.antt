use Rattle.tl_check_faces.proofs.CrossingsLemmas.Apart.{apart}
use Rattle.tl_check_faces.proofs.CrossingsLemmas.Telling.{told}
use Rattle.tl_check_faces.proofs.crossings.laws.places_are_told_by_the_ray_to_the_west.Goals as goal

pub returns : goal.returns
returns c = λ m q place proper planar agree is. told m proper (apart m.chains planar proper) agree q place is
