use Rattle.tigertopo_pictures.proofs.SvgLemmas.ColourLemmas.{hues_differ}
use Rattle.tigertopo_pictures.proofs.svg.laws.hues_differ.Goals as goal

pub returns : goal.returns
returns c = hues_differ
