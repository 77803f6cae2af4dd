use Rattle.std.proofs.Common.{subst}
use Rattle.tl_check_verdict.specs.declared.fault.MapFault.TheVariants.{Meet}
use Rattle.tl_map_county.specs.TheMap.{TheMap}
use Rattle.tl_map_county.specs.Remaining.{remaining}
use Rattle.tl_check_planar.specs.Planar.{IsPlanar}
use Rattle.tl_check_points.specs.Listing.Hidden.{IsMarked}
use Rattle.tl_check_points.proofs.ListingLemmas.Alike.{planar_there, remaining_there}
use Rattle.tl_decide.proofs.meets.list_by_part.Goals as goal

pub list_met-requires-clause-faulty : goal.list_met-requires-clause-faulty
list_met-requires-clause-faulty c = (Meet c.args.meet, c.requires.meet)

pub meets_beside-requires : goal.meets_beside-requires
meets_beside-requires c =
    let H = IsMarked c.args.differing.now.marks.now in
    let part = c.in-Ok.part in
    let is = c.in-Ok.ensures in
    let marks = part.marks.items in
    let planar : IsPlanar (remaining marks c.args.seen.now.chains) =
    subst (λ (m : TheMap). IsPlanar m.chains) is.is is.planar in
    planar_there H (remaining marks c.args.map.now.chains) (remaining marks c.args.seen.now.chains)
    (remaining_there H marks c.args.map.now.chains c.args.seen.now.chains c.requires.alike.chains) planar
