use Rattle.tl_check_faces.proofs.FromTruth.{fault_denies}
use Rattle.tl_check_faces.proofs.laws.a_true_face_fault_denies_true_faces.Goals as goal

pub returns : goal.returns
returns c = λ m fault proper planar agree is. fault_denies m fault proper planar agree is
