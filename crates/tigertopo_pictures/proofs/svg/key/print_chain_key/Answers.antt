use Rattle.tigertopo_pictures.specs.Svg.Texts.{chain_key}
use Rattle.tigertopo_pictures.proofs.svg.key.print_chain_key.Goals as goal

pub returns : goal.returns
unfolding chain_key
returns g c = c.add.ensures
