use Rattle.tl_check_faces.proofs.ToSlabs.{to_slabs}
use Rattle.tl_check_faces.proofs.laws.slabs_have_lists.Goals as goal

pub returns : goal.returns
returns c = λ K chains above near planar agree. to_slabs K chains above near planar agree
