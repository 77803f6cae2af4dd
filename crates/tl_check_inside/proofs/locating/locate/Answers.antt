use Rattle.std.proofs.Common.{◌<◌, All, length, sym, subst}
use Rattle.std.proofs.lemmas.Result.{err_from_is_err_and}
use Rattle.tl_map_county.specs.Segments.{segments_before}
use Rattle.tl_check_inside.specs.Inside.{AreCrossed}
use Rattle.tl_check_inside.proofs.Misplacing.{told_some, told_none}
use Rattle.tl_check_inside.proofs.Placing.{if_ok}
use Rattle.tl_check_inside.proofs.locating.locate.Goals as goal

pub chain_at-requires : goal.chain_at-requires
chain_at-requires g c = record { fits = c.requires.fits }

pub returns-in_err-c : goal.returns-in_err-c
returns-in_err-c g c = let p = err_from_is_err_and c.from_residual.result c.from_residual.ensures.1 in rw p.1 tt

pub returns-in-Some : goal.returns-in-Some
returns-in-Some g c = told_some _ _ c.in_ok-c.field-0 c.in-Some.c c.in-Some.is c.in_ok-c.ensures

pub list_crossed-requires-clause-fits : goal.list_crossed-requires-clause-fits
list_crossed-requires-clause-fits g c = c.requires.fits

pub list_crossed-requires-clause-reach : goal.list_crossed-requires-clause-reach
list_crossed-requires-clause-reach g c = c.has_points_in_reach.ensures

pub returns-in_err-list_crossed : goal.returns-in_err-list_crossed
returns-in_err-list_crossed g c = let p = err_from_is_err_and c.from_residual-in_err-list_crossed.result c.from_residual-in_err-list_crossed.ensures.1 in rw p.1 tt

pub place_by-requires : goal.place_by-requires
place_by-requires g c = record {
  known = subst (All (λ s. s < segments_before c.args.map.now.chains (length c.args.map.now.chains))) (sym c.deref.ensures.value) c.in_ok-list_crossed.ensures.known;
}

pub returns : goal.returns
returns g c =
    if_ok c.place_by.result
    (λ place told. told c.args.point (subst (AreCrossed c.args.map.now.chains c.args.point) (sym c.deref.ensures.value) c.in_ok-list_crossed.ensures.are) (told_none _ _ c.in_ok-c.field-0 c.in-None.is c.in_ok-c.ensures))
    c.place_by.ensures
