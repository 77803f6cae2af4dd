use Rattle.tl_check_faces.proofs.Along.{by_faces}
use Rattle.tl_check_faces.proofs.TrueSides.{true_sides}
use Rattle.tl_check_faces.proofs.laws.true_sides.Goals as goal

pub returns : goal.returns
returns c = λ chains planar agree. true_sides chains planar (by_faces chains planar agree)
