use Rattle.tl_check_faces.proofs.CrossingsLemmas.Apart.{apart}
use Rattle.tl_check_faces.proofs.CrossingsLemmas.Telling.{nowhere}
use Rattle.tl_check_faces.proofs.crossings.laws.nothing_lies_outside_of_the_box_of_all_chains.Goals as goal

pub returns : goal.returns
returns c = λ m q place proper planar agree outside is. nowhere m proper (apart m.chains planar proper) agree q outside place is
