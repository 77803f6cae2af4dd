use Rattle.tl_check_gaps.proofs.FaceFaults.Exact.{told}
use Rattle.tl_check_gaps.proofs.face_faults.laws.each_true_fault_is_among_all.Goals as goal

pub returns : goal.returns
returns c = λ m faults fault all true. told m faults all fault true
