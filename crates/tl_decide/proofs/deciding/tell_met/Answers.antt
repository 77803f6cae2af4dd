use Rattle.std.proofs.lemmas.Result.{IfOk-weaker}
use Rattle.tl_check_planar.proofs.Planes.{meet_not_planar}
use Rattle.tl_check_verdict.specs.declared.fault.MapFault.TheVariants.{Meet}
use Rattle.tl_decide.specs.declared.asked.Depth.TheVariants.{First, All}
use Rattle.tl_decide.proofs.Decisions.{told_at}
use Rattle.tl_decide.proofs.Faced.{alone}
use Rattle.tl_decide.proofs.Firsts.{first_alone}
use Rattle.tl_decide.proofs.deciding.tell_met.Goals as goal

pub returns-in-First : goal.returns-in-First
returns-in-First c =
    let m = c.args.map.now in
    let faces = c.args.faces in
    IfOk-weaker c.one.result _ _
    (λ told is. told_at m faces told.faults.items told.touched First c.args.depth c.in-First.is
    (first_alone faces m (Meet c.args.meet) told.faults.items told.touched c.requires is))
    c.one.ensures

pub returns-in-All : goal.returns-in-All
returns-in-All c =
    let m = c.args.map.now in
    let faces = c.args.faces in
    let meet = c.args.meet in
    IfOk-weaker c.list_by_search.result _ _
    (λ told is. told_at m faces told.faults.items told.touched All c.args.depth c.in-All.is
    (alone faces m told.faults.items told.touched is.0 is.1
    (λ both. meet_not_planar m.chains meet.s meet.t meet.at c.requires.ordered c.requires.told.meet both.0)))
    c.list_by_search.ensures
