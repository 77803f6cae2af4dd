use Rattle.tl_check_planar.proofs.Planes.{planar_free, free_planar}
use Rattle.tl_check_planar.proofs.laws.planar_where_no_two_conflict.Goals as goal

pub returns : goal.returns
returns c = λ chains. (planar_free chains, free_planar chains)
