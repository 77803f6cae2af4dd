use Rattle.std.proofs.Common.{◌++◌, take, drop}
use Rattle.tl_check_gaps.proofs.telling.push_at.Goals as goal

pub returns : goal.returns
returns c = λ west east front back.
    let ins = c.args.ins.now in
    c.in_ok-push_between.ensures (west ++ take c.args.k ins) (drop c.args.k ins ++ east) (c.west_of.ensures west front) (c.east_of.ensures east back)
