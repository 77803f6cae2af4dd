use Rattle.tl_check_faces.proofs.ToNeighbours.{first, last}
use Rattle.tl_check_faces.proofs.laws.segments_that_face_nothing_are_first_or_last.Goals as goal

pub returns-clause-first : goal.returns-clause-first
returns-clause-first c = λ K n chains list s u p near planar of is on inside clear. first K n chains list near planar of s u is p on inside clear

pub returns-clause-last : goal.returns-clause-last
returns-clause-last c = λ K n chains list s u p near planar of is on inside clear. last K n chains list near planar of s u is p on inside clear
