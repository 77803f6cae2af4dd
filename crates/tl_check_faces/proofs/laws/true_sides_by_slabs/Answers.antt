use Rattle.tl_check_faces.proofs.FromSlabs.{by_slabs}
use Rattle.tl_check_faces.proofs.TrueSides.{true_sides}
use Rattle.tl_check_faces.proofs.laws.true_sides_by_slabs.Goals as goal

pub returns : goal.returns
returns c = λ K chains near planar slabs. true_sides chains planar (by_slabs K chains near planar slabs)
