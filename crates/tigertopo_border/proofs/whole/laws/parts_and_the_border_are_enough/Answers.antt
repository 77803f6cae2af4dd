use Rattle.tigertopo_border.proofs.WholeLemmas.Enough.{parts_are_enough}
use Rattle.tigertopo_border.proofs.whole.laws.parts_and_the_border_are_enough.Goals as goal

pub returns : goal.returns
returns c = λ homes parts joined border is_joined is_border proper. parts_are_enough homes parts joined border is_joined is_border proper
