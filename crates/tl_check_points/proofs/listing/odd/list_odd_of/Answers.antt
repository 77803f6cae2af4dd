use Rattle.std.proofs.lemmas.Result.{err_from_is_err_and}
use Rattle.tl_check_inside.specs.Keeping.Tallies.{IsOdd}
use Rattle.tl_check_sides.proofs.ListingLemmas.Listing.{listed_once}
use Rattle.tl_check_points.proofs.ListingLemmas.Odds.{odd_more, all_odd}
use Rattle.tl_check_points.proofs.listing.odd.list_odd_of.Goals as goal

pub loop-place-preserved : goal.loop-place-preserved
loop-place-preserved c =
    odd_more c.args.near.now c.args.far.now c.args.own c.args.crossed.now c.loop-place.place _ c.loop-place.odd.items c.keep_if_odd.new.odd.items
    c.keep_if_odd-in-loop-place.new.odd.items c.loop-place-test.true c.loop-place.invariant c.in_ok-keep_if_odd.ensures c.in_ok-keep_if_odd-2.ensures

pub returns : goal.returns
returns c =
    listed_once (IsOdd c.args.near.now c.args.far.now c.args.own) _ _ c.sort_once.ensures.rising c.sort_once.ensures.same c.loop-place.invariant.each
    (all_odd c.args.near.now c.args.far.now c.args.own c.args.crossed.now c.loop-place.place _ c.loop-place-test.false c.requires.alike c.requires.tallies
    c.loop-place.invariant)

pub returns-in_err-keep_if_odd : goal.returns-in_err-keep_if_odd
returns-in_err-keep_if_odd c = let p = err_from_is_err_and c.from_residual.result c.from_residual.ensures.1 in rw p.1 tt

pub returns-in_err-keep_if_odd-2 : goal.returns-in_err-keep_if_odd-2
returns-in_err-keep_if_odd-2 c = let p = err_from_is_err_and c.from_residual-in_err-keep_if_odd-2.result c.from_residual-in_err-keep_if_odd-2.ensures.1 in rw p.1 tt
