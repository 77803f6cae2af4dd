use Rattle.tl_check_faces.proofs.CrossingsLemmas.Cancelling.{cancelled}
use Rattle.tl_check_faces.proofs.crossings.laws.the_crossings_of_a_height_cancel.Goals as goal

pub returns : goal.returns
returns c = λ chains y S proper apart agree. cancelled chains proper apart agree y S
