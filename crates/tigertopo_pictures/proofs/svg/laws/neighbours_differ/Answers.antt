use Rattle.tigertopo_pictures.proofs.SvgLemmas.ColourLemmas.{neighbours_differ}
use Rattle.tigertopo_pictures.proofs.svg.laws.neighbours_differ.Goals as goal

pub returns : goal.returns
returns c = neighbours_differ
