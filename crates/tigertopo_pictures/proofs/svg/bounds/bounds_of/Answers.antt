use Rattle.std.proofs.Common.{arith}
use Rattle.tigertopo_pictures.proofs.SvgLemmas.FrameLemmas.{around_next, around_end}
use Rattle.tigertopo_pictures.proofs.svg.bounds.bounds_of.Goals as goal

pub loop-chain-preserved : goal.loop-chain-preserved
loop-chain-preserved c = around_next c.args.map.now.chains c.loop-chain.chain _ _ _ _ _ _ _ c.chain.ensures.chain c.around-rect.ensures c.loop-chain.invariant

pub returns : goal.returns
returns c = around_end c.args.map.now.chains c.loop-chain.chain _ _ (omega (arith, c.chains-chain-end.ensures, c.loop-chain-test.false)) c.loop-chain.invariant
