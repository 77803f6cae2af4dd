use Rattle.tl_check_faces.proofs.ToSlabs.{lists}
use Rattle.tl_check_faces.proofs.laws.planar_chains_have_lists.Goals as goal

pub returns : goal.returns
returns c = lists
