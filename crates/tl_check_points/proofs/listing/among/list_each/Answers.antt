use Rattle.std.proofs.Common.{◌≡◌, Some, None, List, Bor, All, get_or, sym, subst, ap, ◌∙◌}
use Rattle.std.proofs.lemmas.Result.{err_from_is_err_and}
use Rattle.std.specs.Prelude.{slice_get}
use Rattle.std.proofs.lemmas.List.{take_all}
use Rattle.tl_check_inside.specs.declared.flanks.Flanks.{Flanks}
use Rattle.tl_check_inside.specs.Keeping.Strips.{IsSiteOf, numbers}
use Rattle.tl_check_inside.specs.Keeping.Tallies.{AreClear}
use Rattle.tl_check_points.specs.Listing.Hidden.{IsMarked}
use Rattle.tl_check_points.specs.Listing.Keeping.Known.{TellAt}
use Rattle.tl_check_points.specs.Listing.Keeping.Parts.{AreFaultsIn, IsOfAny, AndSettled}
use Rattle.tl_check_points.proofs.ListingLemmas.Suspected.{none_among, one_more_among}
use Rattle.tl_check_points.proofs.ListingLemmas.Known.{some_more, tell_at}
use Rattle.tl_check_points.proofs.listing.among.list_each.Goals as goal

pub loop-place-init : goal.loop-place-init
loop-place-init g c = record {
  found = rw c.new-found.ensures.items (none_among (IsMarked c.args.marks.now) c.args.map.now);
  clear = subst (λ n. AreClear n c.in_ok-room.room.near.items c.in_ok-room.room.far.items) c.polygons.ensures c.in_ok-room.ensures;
}

pub list_one-requires-clause-tell : goal.list_one-requires-clause-tell
list_one-requires-clause-tell g c =
    let m = c.args.map.now in
    let k = c.loop-place.place in
    some_more {X = Bor (List Flanks)} c.at.result (slice_get c.in_ok-counts.counts k ≡ Some None) (λ flanks. slice_get c.in_ok-counts.counts k ≡ Some (Some flanks.now))
    (λ flanks. TellAt m (get_or c.args.polygons.now k 0) flanks.now)
    (λ flanks.
    tell_at m c.deref.result.now c.args.polygons.now (subst (All (IsSiteOf m)) (sym c.deref.ensures.value) c.in_ok-sites.ensures.sites)
    (ap numbers c.deref.ensures.value ∙ c.in_ok-sites.ensures.polygons) c.in_ok-counts.counts c.in_ok-counts.ensures.counts k 0 c.loop-place-test.true flanks.now)
    c.at.ensures

pub list_one-requires-clause-clear : goal.list_one-requires-clause-clear
list_one-requires-clause-clear g c = c.loop-place.invariant.clear

pub loop-place-preserved : goal.loop-place-preserved
loop-place-preserved g c = record {
  found =
      one_more_among (IsMarked c.args.marks.now) c.args.map.now c.args.polygons.now c.loop-place.place c.loop-place.found.items c.list_one.new.found.items c.loop-place-test.true
      c.requires.rising c.loop-place.invariant.found c.in_ok-list_one.ensures.part;
  clear = c.in_ok-list_one.ensures.clear;
}

pub returns : goal.returns
returns g c =
    subst (λ l. AreFaultsIn c.args.map.now (AndSettled (IsMarked c.args.marks.now) (IsOfAny l)) c.loop-place.found.items) (take_all c.loop-place.place c.args.polygons.now c.loop-place-test.false)
    c.loop-place.invariant.found

pub returns-in_err-sites : goal.returns-in_err-sites
returns-in_err-sites g c = let p = err_from_is_err_and c.from_residual.result c.from_residual.ensures.1 in rw p.1 tt

pub returns-in_err-counts : goal.returns-in_err-counts
returns-in_err-counts g c = let p = err_from_is_err_and c.from_residual-in_err-counts.result c.from_residual-in_err-counts.ensures.1 in rw p.1 tt

pub returns-in_err-room : goal.returns-in_err-room
returns-in_err-room g c = let p = err_from_is_err_and c.from_residual-in_err-room.result c.from_residual-in_err-room.ensures.1 in rw p.1 tt

pub returns-in_err-list_one : goal.returns-in_err-list_one
returns-in_err-list_one g c = let p = err_from_is_err_and c.from_residual-in_err-list_one.result c.from_residual-in_err-list_one.ensures.1 in rw p.1 tt

pub sites_of-requires : goal.sites_of-requires
sites_of-requires g c = c.requires.known

pub counts_of-requires : goal.counts_of-requires
counts_of-requires g c = c.requires.part

pub list_one-requires-clause-fits : goal.list_one-requires-clause-fits
list_one-requires-clause-fits g c = c.requires.fits

pub list_one-requires-clause-reach : goal.list_one-requires-clause-reach
list_one-requires-clause-reach g c = c.requires.reach

pub list_one-requires-clause-polygon : goal.list_one-requires-clause-polygon
list_one-requires-clause-polygon g c = c.requires.known c.loop-place.place 0 c.loop-place-test.true
