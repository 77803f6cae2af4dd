use Rattle.tl_check_faces.proofs.Neighbours.{neighbours}
use Rattle.tl_check_faces.proofs.Midway.{neighbours_midway}
use Rattle.tl_check_faces.proofs.laws.neighbours_face.Goals as goal

pub returns-clause-at_one_height : goal.returns-clause-at_one_height
returns-clause-at_one_height c = λ K n chains front back s t u w first next p q near planar of on on' inside level differ.
    neighbours K n chains near planar front back s u first p on inside t w next q on' level of differ

pub returns-clause-midway : goal.returns-clause-midway
returns-clause-midway c = λ K n chains front back s t u w first next p q near planar of m m' differ.
    neighbours_midway K n chains near planar front back s u first p m t w next q m' of differ
