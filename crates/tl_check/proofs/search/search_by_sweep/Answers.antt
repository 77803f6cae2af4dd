use Rattle.tl_check_gaps.specs.declared.watch.Gaps.TheVariants.{First}
use Rattle.tl_check_sweep.proofs.Deciding.{found_planar, found_meet}
use Rattle.tl_check.proofs.Swept.{swept_planar}
use Rattle.tl_check.proofs.search.search_by_sweep.Goals as goal

pub returns-in-Placed : goal.returns-in-Placed
returns-in-Placed c =
    let m = c.args.map.now in
    let report = c.in-Ok.report in
    swept_planar m report c.in-Ok.ensures (found_planar m First report c.in-Ok.ensures c.in-Placed.is)

pub returns-in-Meet : goal.returns-in-Meet
returns-in-Meet c = λ budget within. found_meet c.args.map.now First c.in-Ok.report c.in-Ok.ensures c.in-Meet.meet c.in-Meet.is
