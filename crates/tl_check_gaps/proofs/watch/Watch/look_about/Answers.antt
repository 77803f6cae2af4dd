use Rattle.std.proofs.Common.{◌++◌}
use Rattle.tl_check_gaps.proofs.Odd.{nothing_more}
use Rattle.tl_check_gaps.proofs.Whole.{looked}
use Rattle.tl_check_gaps.proofs.watch.Watch.look_about.Goals as goal

pub returns-in_ok-push_about : goal.returns-in_ok-push_about
returns-in_ok-push_about c = λ west outs east front back counted.
    looked c.args.map.now.chains c.args.p west outs c.args.ins.now east c.args.gaps c.args.self.now c.push_about.new.gaps
    (c.in_ok-push_about.ensures west east front back) (c.looks.ensures.some c.if-looks.true) (c.looks.ensures.still c.if-looks.true)

pub returns-else-looks : goal.returns-else-looks
returns-else-looks c = λ west outs east front back counted.
    nothing_more c.args.map.now.chains c.args.p (west ++ (outs ++ east)) ((west ++ c.args.ins.now) ++ east) c.args.gaps c.args.self.now counted
    (c.looks.ensures.none c.if-looks.false)
