use Rattle.tl_check_faces.proofs.CrossingsLemmas.Apart.{apart}
use Rattle.tl_check_faces.proofs.CrossingsLemmas.Rays.{east_is_west}
use Rattle.tl_check_faces.proofs.crossings.laws.east_is_west.Goals as goal

pub returns : goal.returns
returns c = λ chains q S n proper planar agree off. east_is_west chains q S n proper (apart chains planar proper) agree off
