use Rattle.tigertopo_border.proofs.Joining.GroupLemmas.{decided_in_steps}
use Rattle.tigertopo_border.proofs.laws.counties_and_states_are_enough.Goals as goal

pub returns : goal.returns
returns c = λ options texts names state_names groups parts states drawn border nation read grouped apart last named nation_is.
    decided_in_steps options texts names parts drawn border read groups grouped states apart state_names nation last named nation_is
