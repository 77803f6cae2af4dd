use Rattle.tl_check_planar.proofs.Planes.{meet_not_planar}
use Rattle.tl_decide.proofs.Decisions.{without_rings}
use Rattle.tl_decide.proofs.deciding.decide_met.Goals as goal

pub returns : goal.returns
returns c =
    let m = c.args.map.now in
    let meet = c.args.meet in
    without_rings c.args.asked m c.in_ok-told.told c.decided_without_rings.result c.decided_without_rings.ensures.faults c.decided_without_rings.ensures.touched
    (λ both. meet_not_planar m.chains meet.s meet.t meet.at c.requires.ordered c.requires.told.meet both.0) c.in_ok-told.ensures
