use Rattle.tl_check_gaps.proofs.Between.{counted, placed}
use Rattle.tl_check_gaps.proofs.laws.a_point_is_placed_by_the_side_that_it_sees.Goals as goal

pub returns-clause-counted : goal.returns-clause-counted
returns-clause-counted c = λ K chains q front back S wide clear between facing none. counted K chains wide q clear front back between facing S none

pub returns-clause-placed : goal.returns-clause-placed
returns-clause-placed c = λ K m q front back p wide clear between facing sees. placed K m q front back p wide clear between facing sees
