use Rattle.tigertopo_border.proofs.WholeLemmas.Bordering.{joined_borders}
use Rattle.tigertopo_border.proofs.WholeLemmas.Enough.{parts_are_enough}
use Rattle.tigertopo_border.proofs.whole.laws.parts_are_enough.Goals as goal

pub returns : goal.returns
returns c = λ homes parts borders joined border is_joined own_borders borders_joined proper rising border_rising.
    parts_are_enough homes parts joined border is_joined
    (joined_borders homes parts borders joined border is_joined own_borders borders_joined rising border_rising) proper
