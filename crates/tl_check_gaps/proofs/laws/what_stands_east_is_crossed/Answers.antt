use Rattle.tl_check_gaps.proofs.Between.{off_chains, crossed}
use Rattle.tl_check_gaps.proofs.laws.what_stands_east_is_crossed.Goals as goal

pub returns-clause-off : goal.returns-clause-off
returns-clause-off c = λ K chains q front back wide clear between. off_chains K chains wide q clear front back between

pub returns-clause-crossed : goal.returns-clause-crossed
returns-clause-crossed c = λ K chains q front back wide clear between. crossed K chains wide q clear front back between
