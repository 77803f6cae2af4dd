use Rattle.tl_check_faces.proofs.CrossingsLemmas.Rays.{counted}
use Rattle.tl_check_faces.proofs.crossings.laws.sides_have_one_count.Goals as goal

pub returns : goal.returns
returns c = λ chains q S proper. counted chains q S proper
