use Rattle.tl_check_faces.proofs.Staying.{stays}
use Rattle.tl_check_faces.proofs.laws.counts_stay_along_a_clear_line.Goals as goal

pub returns : goal.returns
returns c = λ chains S p q n proper apart agree clear. stays chains proper S p q clear apart agree n
