use Rattle.tl_check_faces.proofs.FromTruth.{faces_agree}
use Rattle.tl_check_faces.proofs.laws.faces_agree_where_sides_are_true.Goals as goal

pub returns : goal.returns
returns c = λ chains proper planar agree truth. faces_agree chains proper planar agree truth
