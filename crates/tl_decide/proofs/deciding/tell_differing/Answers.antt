use Rattle.std.proofs.lemmas.Result.{IfOk-weaker}
use Rattle.tl_decide.specs.declared.asked.Depth.TheVariants.{All}
use Rattle.tl_decide.proofs.Decisions.{told_at}
use Rattle.tl_decide.proofs.Faced.{alone}
use Rattle.tl_decide.proofs.deciding.tell_differing.Goals as goal

pub returns : goal.returns
returns c =
    let m = c.args.map.now in
    let faces = c.args.faces in
    IfOk-weaker c.list_differing.result _ _
    (λ told is. told_at m faces told.faults.items told.touched All c.args.depth c.in-All.is
    (alone faces m told.faults.items told.touched is.0 is.1 (λ both. c.requires.differ both.1)))
    c.list_differing.ensures
