use Rattle.tl_check_inside.specs.Inside.{is_polygon}
use Rattle.tl_check_faces.proofs.CrossingsLemmas.Boxed.{counts_nothing}
use Rattle.tl_check_faces.proofs.crossings.laws.a_polygon_counts_nothing_outside_of_its_box.Goals as goal

pub returns : goal.returns
returns c = λ chains q p n proper apart agree outside. counts_nothing chains q (is_polygon p) proper apart agree n outside
