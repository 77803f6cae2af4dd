use Rattle.std.proofs.lemmas.Result.{IfOk-weaker}
use Rattle.tl_check_gaps.proofs.Agreeing.{true_first, true_all}
use Rattle.tl_check_gaps.proofs.watch.Watch.into_gaps.Goals as goal

pub returns-in-First : goal.returns-in-First
returns-in-First c = true_first c.args.map.now.chains c.requires.near c.requires.planar c.args.self c.requires.watched c.in-First.is

pub returns-in-All : goal.returns-in-All
returns-in-All c =
    IfOk-weaker c.lowest_of_each.result _ _
    (λ kept are. true_all c.args.map.now.chains c.requires.near c.requires.planar c.args.self c.requires.watched c.in-All.is kept.items are)
    c.lowest_of_each.ensures
