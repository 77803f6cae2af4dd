use Rattle.tl_check_faces.proofs.Whole.{one_count}
use Rattle.tl_check_faces.proofs.laws.sides_have_one_count_at_a_place.Goals as goal

pub returns : goal.returns
returns c = λ chains q S m n a b. one_count chains q S m n a b
