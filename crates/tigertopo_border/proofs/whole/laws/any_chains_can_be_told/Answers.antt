use Rattle.tigertopo_border.proofs.WholeLemmas.Told.{can_be_told}
use Rattle.tigertopo_border.proofs.whole.laws.any_chains_can_be_told.Goals as goal

pub returns : goal.returns
returns c = λ names told chains. can_be_told names told chains
