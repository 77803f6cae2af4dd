use Rattle.tl_check_faces.proofs.ToNeighbours.{neighbours}
use Rattle.tl_check_faces.proofs.laws.facing_segments_are_neighbours.Goals as goal

pub returns : goal.returns
returns c = λ K n chains list s t u w p q near planar of is is' on on' inside level west clear.
    neighbours K n chains list near planar of s u is p on inside t w is' q on' level west clear
