use Rattle.std.proofs.Common.{List, length, subst, sym}
use Rattle.std.proofs.lemmas.Result.{err_from_is_err_and}
use Rattle.tl_map_county.specs.TheMap.{MapChain}
use Rattle.tl_map_county.specs.Segments.{segments_before}
use Rattle.tl_check_planar.specs.Searching.{MayTell}
use Rattle.tl_check_planar.specs.Listing.Conflicts.{AreAllConflicts, IsOneMarked}
use Rattle.tl_check_planar.proofs.ListingLemmas.Remaining.{one_segment_marked}
use Rattle.tl_check_planar.proofs.listing.meets.all_meets.Goals as goal

pub meets_of-requires : goal.meets_of-requires
meets_of-requires g c =
    rw c.deref-2.ensures.value
    (subst (λ (cs : List MapChain). AreAllConflicts (segments_before cs (length cs)) (MayTell cs) c.in_ok-conflicts.conflicts.items) c.new.ensures c.in_ok-conflicts.ensures)

pub returns : goal.returns
returns g c = c.meets_of.ensures

pub returns-in_err-conflicts : goal.returns-in_err-conflicts
returns-in_err-conflicts g c = let p = err_from_is_err_and c.from_residual-in_err-conflicts.result c.from_residual-in_err-conflicts.ensures.1 in rw p.1 tt

pub all_conflicts-requires-clause-marked : goal.all_conflicts-requires-clause-marked
all_conflicts-requires-clause-marked g c =
    let chains = c.args.map.now.chains in
    rw c.deref.ensures.value
    (subst (λ (cs : List MapChain). IsOneMarked (segments_before cs (length cs)) (MayTell cs) c.in_ok-segments.segments.items) (sym c.new.ensures)
    (one_segment_marked c.args.marks.now chains c.requires.planar (segments_before chains (length chains)) c.in_ok-segments.segments.items c.in_ok-segments.ensures))
