use Rattle.tl_check_faces.proofs.CrossingsLemmas.OneLeft.{one_left, counts_whole}
use Rattle.tl_check_faces.proofs.crossings.laws.a_ring_has_one_left.Goals as goal

pub returns-clause-one_left : goal.returns-clause-one_left
returns-clause-one_left c = λ chains ring k agree is lt. one_left chains agree ring is k lt

pub returns-clause-count : goal.returns-clause-count
returns-clause-count c = λ chains ring q S agree is. counts_whole chains agree ring is q S
