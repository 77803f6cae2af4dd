use Rattle.tl_check_faces.proofs.Along.{by_faces}
use Rattle.tl_check_faces.proofs.OnePolygon.{one_polygon}
use Rattle.tl_check_faces.proofs.laws.one_polygon.Goals as goal

pub returns : goal.returns
returns c = λ chains planar agree. one_polygon chains (by_faces chains planar agree)
