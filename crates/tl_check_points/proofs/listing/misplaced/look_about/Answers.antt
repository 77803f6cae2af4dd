use Rattle.std.proofs.Common.{sym, subst, arith}
use Rattle.std.proofs.lemmas.Result.{err_from_is_err_and}
use Rattle.tl_check_inside.specs.Places.{IsHeldBy}
use Rattle.tl_check_inside.specs.Keeping.Strips.{AreEnough}
use Rattle.tl_check_sides.proofs.ListingLemmas.Listing.{listed_once}
use Rattle.tl_check_points.proofs.listing.misplaced.look_about.Goals as goal

pub sift_all-requires : goal.sift_all-requires
sift_all-requires g c = record {
  enough = subst (AreEnough c.args.map.now.chains c.args.site.point) (sym c.deref.ensures.value) (c.in_ok-list_in_strip.ensures 0 c.args.site (omega arith));
}

pub returns-clause-held : goal.returns-clause-held
returns-clause-held g c =
    listed_once (IsHeldBy c.args.map.now.chains c.args.site.point) _ _ c.sort_once.ensures.rising c.sort_once.ensures.same c.in_ok-sift_all.ensures.each
    c.in_ok-sift_all.ensures.all

pub returns-in_err-list_in_strip : goal.returns-in_err-list_in_strip
returns-in_err-list_in_strip g c = let p = err_from_is_err_and c.from_residual.result c.from_residual.ensures.1 in rw p.1 (record { held = tt; tell = tt })

pub returns-in_err-sift_all : goal.returns-in_err-sift_all
returns-in_err-sift_all g c = let p = err_from_is_err_and c.from_residual-in_err-sift_all.result c.from_residual-in_err-sift_all.ensures.1 in rw p.1 (record { held = tt; tell = tt })
