use Rattle.tl_check_faces.proofs.CrossingsLemmas.Apart.{apart}
use Rattle.tigertopo_border.proofs.WholeLemmas.Closed.{all_closed}
use Rattle.tigertopo_border.proofs.whole.laws.boundaries_are_closed.Goals as goal

pub returns : goal.returns
returns c = λ chains side proper planar agree. all_closed chains proper (apart chains planar proper) agree side
