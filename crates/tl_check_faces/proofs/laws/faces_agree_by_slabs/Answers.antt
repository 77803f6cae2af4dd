use Rattle.tl_check_faces.proofs.FromSlabs.{by_slabs}
use Rattle.tl_check_faces.proofs.ToFaces.{agree}
use Rattle.tl_check_faces.proofs.laws.faces_agree_by_slabs.Goals as goal

pub returns : goal.returns
returns c = λ K chains near planar slabs. agree chains planar (by_slabs K chains near planar slabs)
