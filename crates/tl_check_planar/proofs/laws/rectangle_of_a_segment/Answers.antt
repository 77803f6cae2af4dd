use Rattle.tl_check_planar.proofs.Rects.{rect_by_number}
use Rattle.tl_check_planar.proofs.laws.rectangle_of_a_segment.Goals as goal

pub returns : goal.returns
returns c = rect_by_number
