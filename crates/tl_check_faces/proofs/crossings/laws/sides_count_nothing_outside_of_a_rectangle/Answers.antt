use Rattle.tl_check_faces.specs.Crossings.Boxes.{IsOnBoundary}
use Rattle.tl_check_faces.proofs.CrossingsLemmas.Boxed.{counts_nothing}
use Rattle.tl_check_faces.proofs.CrossingsLemmas.Boxes.{outside_rect}
use Rattle.tl_check_faces.proofs.crossings.laws.sides_count_nothing_outside_of_a_rectangle.Goals as goal

pub returns : goal.returns
returns c = λ chains r q S n proper apart agree holds out. counts_nothing chains q S proper apart agree n (outside_rect (IsOnBoundary chains S) r q holds out)
