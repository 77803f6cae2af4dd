use Rattle.tl_check_faces.proofs.CrossingsLemmas.Neighbours.{next_after}
use Rattle.tl_check_faces.proofs.CrossingsLemmas.Rounds.{next_in_round}
use Rattle.tl_check_faces.proofs.crossings.laws.next_is_the_neighbour.Goals as goal

pub returns-clause-of_a_node : goal.returns-clause-of_a_node
returns-clause-of_a_node c = λ chains node darts k are h. next_after chains node darts are k h

pub returns-clause-in_rounds : goal.returns-clause-in_rounds
returns-clause-in_rounds c = λ chains rounds r k proper are. next_in_round chains proper rounds are r k
