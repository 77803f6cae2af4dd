use Rattle.tl_check_planar.proofs.Planes.{meet_not_planar}
use Rattle.tl_check_planar.proofs.laws.a_meet_is_not_planar.Goals as goal

pub returns : goal.returns
returns c = meet_not_planar
