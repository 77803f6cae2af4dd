use Rattle.tl_list.proofs.Listed.{each_told}
use Rattle.tl_list.proofs.laws.each_fault_that_is_true_is_told.Goals as goal

pub returns : goal.returns
returns c = each_told
