use Rattle.tl_tree.proofs.Marks8.{moved}
use Rattle.tl_tree.proofs.lanes.later_marks.Goals as goal

pub returns-clause-moved : goal.returns-clause-moved
returns-clause-moved c = λ k lt. moved c.args.marks k lt
