use Rattle.tigertopo_faults.proofs.DegreeLemmas.{tens, some_ten}
use Rattle.std.proofs.Common.{arith}
use Rattle.tigertopo_faults.proofs.places.degrees.power.Goals as goal

pub returns-clause-bound : goal.returns-clause-bound
returns-clause-bound c = rw c.loop.invariant (tens c.loop.counter 12 (omega arith))

pub returns-clause-small : goal.returns-clause-small
returns-clause-small c = λ few. rw c.loop.invariant (tens c.loop.counter 6 (omega (arith, few)))

pub returns-clause-some : goal.returns-clause-some
returns-clause-some c = rw c.loop.invariant (some_ten _)
