use Rattle.tl_check_faces.proofs.FromTruth.{faces_are_true}
use Rattle.tl_check_faces.proofs.laws.faces_agree_exactly_where_they_are_true.Goals as goal

pub returns : goal.returns
returns c = λ chains proper planar agree. faces_are_true chains proper planar agree
