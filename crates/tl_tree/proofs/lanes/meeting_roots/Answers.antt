use Rattle.tl_tree.proofs.Roots.{all-marked}
use Rattle.tl_tree.proofs.lanes.meeting_roots.Goals as goal

pub returns-then-are_few : goal.returns-then-are_few
returns-then-are_few g c = λ k lt m. all-marked k lt
