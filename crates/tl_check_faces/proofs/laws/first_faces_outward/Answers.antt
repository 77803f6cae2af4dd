use Rattle.std.proofs.Common.{[]}
use Rattle.tl_check_faces.proofs.Neighbours.{first}
use Rattle.tl_check_faces.proofs.Midway.{first_midway}
use Rattle.tl_check_faces.proofs.laws.first_faces_outward.Goals as goal

pub returns-clause-within : goal.returns-clause-within
returns-clause-within c = λ K n chains back s u is p near planar of on inside differs. first K n chains near planar [] back s u is p on inside of differs

pub returns-clause-midway : goal.returns-clause-midway
returns-clause-midway c = λ K n chains back s u is p near planar of m differs. first_midway K n chains near planar [] back s u is p m of differs
