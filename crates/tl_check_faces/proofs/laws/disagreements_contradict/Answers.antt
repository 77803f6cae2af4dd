use Rattle.tl_check_faces.proofs.Neighbours.{face_contradicts, outward_contradicts}
use Rattle.tl_check_faces.proofs.laws.disagreements_contradict.Goals as goal

pub returns-clause-face : goal.returns-clause-face
returns-clause-face c = λ chains one other d. face_contradicts chains one other d

pub returns-clause-outward : goal.returns-clause-outward
returns-clause-outward c = λ chains one x y d. outward_contradicts chains one x y d
