use Rattle.tigertopo_border.proofs.Joining.EnoughLemmas.{decided}
use Rattle.tigertopo_border.proofs.laws.counties_and_their_borders_are_enough.Goals as goal

pub returns : goal.returns
returns c = λ options texts names parts map border read. decided options texts names parts map border read
