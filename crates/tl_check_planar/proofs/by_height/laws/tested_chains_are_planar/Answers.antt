use Rattle.tl_check_planar.proofs.ByHeight.Planarity.{planar}
use Rattle.tl_check_planar.proofs.by_height.laws.tested_chains_are_planar.Goals as goal

pub returns : goal.returns
returns c = λ K chains wide slabs vertices. planar K chains wide slabs vertices
