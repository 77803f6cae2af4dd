use Rattle.tigertopo_border.proofs.WholeLemmas.Bordering.{joined_borders}
use Rattle.tigertopo_border.proofs.whole.laws.joined_borders_are_the_border.Goals as goal

pub returns : goal.returns
returns c = λ homes parts borders joined border is_joined own_borders borders_joined rising border_rising.
    joined_borders homes parts borders joined border is_joined own_borders borders_joined rising border_rising
