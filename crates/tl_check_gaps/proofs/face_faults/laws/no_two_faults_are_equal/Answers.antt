use Rattle.tl_check_gaps.proofs.FaceFaults.Apart.{all_apart}
use Rattle.tl_check_gaps.proofs.face_faults.laws.no_two_faults_are_equal.Goals as goal

pub returns : goal.returns
returns c = all_apart
