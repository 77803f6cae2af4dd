use Rattle.tl_check_faces.proofs.CrossingsLemmas.Apart.{overlap}
use Rattle.tl_check_faces.proofs.crossings.laws.first_segments_of_one_heading_overlap.Goals as goal

pub returns : goal.returns
returns c = λ chains d e node first second proper. overlap chains proper d e node first second
