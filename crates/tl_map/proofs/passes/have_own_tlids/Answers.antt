use Rattle.std.proofs.Common.{arith}
use Rattle.tl_map.proofs.ChainLemmas.{neighbours_counted}
use Rattle.tl_map.proofs.passes.have_own_tlids.Goals as goal

pub returns-then-chains-place : goal.returns-then-chains-place
returns-then-chains-place c = neighbours_counted c.args.chains.now c.loop-place.place _ _ (omega arith) (omega arith) c.if-chains-place.true
