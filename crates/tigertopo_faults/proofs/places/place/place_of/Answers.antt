use Rattle.std.proofs.Common.{arith}
use Rattle.tigertopo_faults.proofs.PlaceLemmas.{goes_from_first, goes_on}
use Rattle.tigertopo_faults.proofs.places.place.place_of.Goals as goal

pub loop-text-init : goal.loop-text-init
loop-text-init c = goes_from_first c.args.counts.now c.args.number

pub loop-text-preserved : goal.loop-text-preserved
loop-text-preserved c = goes_on c.args.counts.now c.args.number c.loop-text.text c.loop-text.line (omega arith) (omega arith) c.loop-text.invariant
