use Rattle.std.proofs.Common.{[]}
use Rattle.tl_check_faces.proofs.Neighbours.{last}
use Rattle.tl_check_faces.proofs.Midway.{last_midway}
use Rattle.tl_check_faces.proofs.laws.last_faces_outward.Goals as goal

pub returns-clause-within : goal.returns-clause-within
returns-clause-within c = λ K n chains front s u is p near planar of on inside differs. last K n chains near planar front [] s u is p on inside of differs

pub returns-clause-midway : goal.returns-clause-midway
returns-clause-midway c = λ K n chains front s u is p near planar of m differs. last_midway K n chains near planar front [] s u is p m of differs
