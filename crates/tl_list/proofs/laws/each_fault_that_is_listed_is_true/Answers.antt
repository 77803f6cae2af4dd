use Rattle.tl_list.proofs.Listed.{each_true}
use Rattle.tl_list.proofs.laws.each_fault_that_is_listed_is_true.Goals as goal

pub returns : goal.returns
returns c = each_true
