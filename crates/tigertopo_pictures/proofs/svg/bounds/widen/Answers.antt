use Rattle.std.proofs.Common.{rules}
use Rattle.tigertopo_pictures.proofs.SvgLemmas.FrameLemmas.{same_sides}
use Rattle.tigertopo_pictures.proofs.svg.bounds.widen.Goals as goal

pub returns : goal.returns
returns c = same_sides _ _ _ _ _ _ _ _ (search rules) (search rules) (search rules) (search rules)
