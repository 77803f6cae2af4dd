use Rattle.tl_check_faces.proofs.CrossingsLemmas.Thrice.{chains, proper, agree, one_too_many}
use Rattle.tl_check_faces.proofs.crossings.laws.sides_that_agree_are_not_enough.Goals as goal

pub returns : goal.returns
returns c = (chains, proper, agree, one_too_many)
