use Rattle.tl_check_faces.proofs.FromSlabs.{by_slabs}
use Rattle.tl_check_faces.proofs.OnePolygon.{one_polygon}
use Rattle.tl_check_faces.proofs.laws.one_polygon_by_slabs.Goals as goal

pub returns : goal.returns
returns c = λ K chains near planar slabs. one_polygon chains (by_slabs K chains near planar slabs)
