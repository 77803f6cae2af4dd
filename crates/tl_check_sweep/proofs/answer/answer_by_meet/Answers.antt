use Rattle.tl_check_planar.proofs.Planes.{meet_not_planar}
use Rattle.tl_check_gaps.proofs.Unmarked.{none_marked}
use Rattle.tl_check_sweep.proofs.answer.answer_by_meet.Goals as goal

pub returns : goal.returns
returns c = λ m gaps is. record {
  answer = is;
  marks = none_marked m c.new.result.items c.new.ensures.items;
  gaps = λ planar. absurd (meet_not_planar m.chains c.args.meet.s c.args.meet.t c.args.meet.at is.ordered is.told.meet planar);
}
