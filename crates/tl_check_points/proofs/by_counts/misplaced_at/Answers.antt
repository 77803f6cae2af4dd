use Rattle.std.proofs.Common.{subst}
use Rattle.tl_check_inside.specs.Places.{IsOffChains}
use Rattle.tl_check_inside.specs.Keeping.Tallies.{TellCounts}
use Rattle.tl_check_points.proofs.Leaving.{point_is, told_of_site}
use Rattle.tl_check_points.proofs.by_counts.misplaced_at.Goals as goal

pub misplaced_by-requires-clause-off : goal.misplaced_by-requires-clause-off
misplaced_by-requires-clause-off c =
    subst (IsOffChains c.args.map.now.chains) (point_is c.args.map.now c.args.site c.polygon.result c.requires.is c.polygon.ensures) c.requires.off

pub misplaced_by-requires-clause-tell : goal.misplaced_by-requires-clause-tell
misplaced_by-requires-clause-tell c =
    subst (λ q. TellCounts c.args.map.now.chains q c.args.flanks.now) (point_is c.args.map.now c.args.site c.polygon.result c.requires.is c.polygon.ensures)
    c.requires.tell

pub returns-clause-found : goal.returns-clause-found
returns-clause-found c = told_of_site c.args.map.now c.args.site c.polygon.result c.misplaced_by.result c.polygon.ensures c.misplaced_by.ensures.found
