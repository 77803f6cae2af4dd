use Rattle.tl_check_faces.proofs.CrossingsLemmas.Apart.{apart}
use Rattle.tl_check_faces.proofs.crossings.laws.darts_of_planar_chains_head_apart.Goals as goal

pub returns : goal.returns
returns c = λ chains proper planar. apart chains planar proper
