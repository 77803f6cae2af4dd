use Rattle.tl_decide.proofs.Decisions.{without_rings}
use Rattle.tl_decide.proofs.deciding.decide_differing.Goals as goal

pub returns : goal.returns
returns c =
    without_rings c.args.asked c.args.map.now c.in_ok-told.told c.decided_without_rings.result c.decided_without_rings.ensures.faults
    c.decided_without_rings.ensures.touched (λ both. c.requires.differ both.1) c.in_ok-told.ensures
