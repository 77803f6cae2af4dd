use Rattle.std.proofs.Common.{sym, subst}
use Rattle.std.proofs.lemmas.Result.{err_from_is_err_and}
use Rattle.tl_check_inside.specs.Keeping.Tallies.{TellCounts}
use Rattle.tl_check_points.proofs.listing.misplaced.list_at.Goals as goal

pub push_wrong-requires-clause-outside : goal.push_wrong-requires-clause-outside
push_wrong-requires-clause-outside g c = c.in_ok-outside.ensures.outside c.polygon-polygon.result.point
    (subst (TellCounts c.args.map.now.chains c.polygon-polygon.result.point) (sym c.deref.ensures.value) c.in_ok-look_about.ensures.tell)

pub push_wrong-requires-clause-odd : goal.push_wrong-requires-clause-odd
push_wrong-requires-clause-odd g c = rw c.deref-3.ensures.value (c.in_ok-outside.ensures.odd c.polygon-polygon.result.point
    (subst (TellCounts c.args.map.now.chains c.polygon-polygon.result.point) (sym c.deref.ensures.value) c.in_ok-look_about.ensures.tell))

pub returns-in_err-look_about : goal.returns-in_err-look_about
returns-in_err-look_about g c = let p = err_from_is_err_and c.from_residual.result c.from_residual.ensures.1 in rw p.1 (record { part = tt; clear = tt })

pub returns-in_err-outside : goal.returns-in_err-outside
returns-in_err-outside g c = let p = err_from_is_err_and c.from_residual-in_err-outside.result c.from_residual-in_err-outside.ensures.1 in rw p.1 (record { part = tt; clear = tt })

pub look_about-requires : goal.look_about-requires
look_about-requires g c = record { fits = c.requires.fits; reach = c.requires.reach }

pub list_odd-requires : goal.list_odd-requires
list_odd-requires g c = record { known = c.requires.known; clear = rw (c.deref_mut.ensures.value, c.deref_mut-2.ensures.value) c.requires.clear }

pub push_wrong-requires-clause-is : goal.push_wrong-requires-clause-is
push_wrong-requires-clause-is g c = c.polygon-polygon.ensures

pub push_wrong-requires-clause-held : goal.push_wrong-requires-clause-held
push_wrong-requires-clause-held g c = rw c.deref-2.ensures.value c.in_ok-look_about.ensures.held
