use Rattle.tl_check_faces.proofs.Rewritten.{first_rewritten, last_rewritten, outward_rewritten}
use Rattle.tl_check_faces.proofs.laws.disagreements_are_of_places.Goals as goal

pub returns : goal.returns
returns c = record {
  first = λ chains one other p same d. first_rewritten p chains one other same d;
  last = λ chains one other p same d. last_rewritten p chains one other same d;
  outward = λ chains one x y p same d. outward_rewritten p chains one x y same d;
}
