use Rattle.tl_check_faces.proofs.Contradicts.{denied}
use Rattle.tl_check_faces.proofs.laws.a_true_face_fault_contradicts.Goals as goal

pub returns : goal.returns
returns c = denied
