use Rattle.tl_check_faces.proofs.Unique.{unique}
use Rattle.tl_check_faces.proofs.laws.no_two_polygons.Goals as goal

pub returns : goal.returns
returns c = λ chains q side other one two. unique chains q side other one two
