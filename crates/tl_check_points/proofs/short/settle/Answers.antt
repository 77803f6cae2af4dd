use Rattle.std.proofs.Common.{length, subst}
use Rattle.tl_map_county.specs.Sides.{IsSideAmong}
use Rattle.tl_check_active.proofs.BlocksLemmas.Answered.{still_ok}
use Rattle.tl_check_points.proofs.short.settle.Goals as goal

pub returns-then-come-gone-clause-among : goal.returns-then-come-gone-clause-among
returns-then-come-gone-clause-among c =
    let n = length c.args.near.now in
    still_ok c.push_times.result _ _
    (λ more. more n (record { near = subst (IsSideAmong n) c.in-Polygon.is c.requires.among; far = tt })) c.push_times.ensures.among

pub returns-else-come-gone-clause-among : goal.returns-else-come-gone-clause-among
returns-else-come-gone-clause-among c =
    let n = length c.args.near.now in
    still_ok c.push_times-else-come-gone.result _ _
    (λ more. more n (record { near = tt; far = subst (IsSideAmong n) c.in-Polygon.is c.requires.among })) c.push_times-else-come-gone.ensures.among
