use Rattle.std.proofs.Common.{[], subst, arith}
use Rattle.std.proofs.lemmas.Result.{err_from_is_err_and}
use Rattle.tl_check_inside.specs.Keeping.Tallies.{AreClear}
use Rattle.tl_check_points.specs.Listing.AllMisplaced.{NoneHidden}
use Rattle.tl_check_points.specs.Listing.Hidden.{IsMarked}
use Rattle.tl_check_points.proofs.ListingLemmas.Joining.{none_yet, one_more}
use Rattle.tl_check_points.proofs.ListingLemmas.Wholes.{all_of}
use Rattle.tl_check_points.proofs.ListingLemmas.Alike.{hidden_as}
use Rattle.tl_check_points.proofs.listing.misplaced.all_misplaced.Goals as goal

pub loop-p-init : goal.loop-p-init
loop-p-init g c = record {
  found = rw c.new-found.ensures.items (none_yet (IsMarked []) c.args.map.now);
  clear = subst (λ n. AreClear n c.in_ok-room.room.near.items c.in_ok-room.room.far.items) c.polygons.ensures c.in_ok-room.ensures;
}

pub loop-p-preserved : goal.loop-p-preserved
loop-p-preserved g c = record {
  found = one_more (IsMarked []) c.args.map.now c.loop-p.p _ _ c.loop-p.invariant.found c.in_ok-list_at.ensures.part;
  clear = c.in_ok-list_at.ensures.clear;
}

pub returns : goal.returns
returns g c =
    let past = c.loop-p-test.false in
    hidden_as (IsMarked []) NoneHidden c.args.map.now c.loop-p.found.items (λ p h. cc) (λ p h. absurd h)
    (all_of (IsMarked []) c.args.map.now c.loop-p.p _ (omega (arith, past, c.polygons-p-end.ensures, c.loop-p.auto.p-end)) c.loop-p.invariant.found)

pub returns-in_err-room : goal.returns-in_err-room
returns-in_err-room g c = let p = err_from_is_err_and c.from_residual.result c.from_residual.ensures.1 in rw p.1 tt

pub returns-in_err-list_at : goal.returns-in_err-list_at
returns-in_err-list_at g c = let p = err_from_is_err_and c.from_residual-in_err-list_at.result c.from_residual-in_err-list_at.ensures.1 in rw p.1 tt
