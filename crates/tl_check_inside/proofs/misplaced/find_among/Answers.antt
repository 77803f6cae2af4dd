use Rattle.std.proofs.Common.{All, length, sym, subst, ap, ◌∙◌}
use Rattle.std.proofs.lemmas.Result.{err_from_is_err_and}
use Rattle.tl_check_inside.specs.Placed.{IsTrueMisplaced}
use Rattle.tl_check_inside.specs.Keeping.Strips.{IsSiteOf, IsPlacedSite}
use Rattle.tl_check_inside.specs.Keeping.Tallies.{AreNone}
use Rattle.tl_check_inside.proofs.Sites.{all_moved, placed_moved}
use Rattle.tl_check_inside.proofs.Stripping.{placed_answer}
use Rattle.tl_check_inside.proofs.misplaced.find_among.Goals as goal

pub find_in_order-requires-clause-sites : goal.find_in_order-requires-clause-sites
find_in_order-requires-clause-sites g c =
    subst (All (IsSiteOf c.args.map.now)) (sym c.deref.ensures.value)
    (all_moved c.args.map.now c.args.sites.now.items c.sort_northward.new.sites.items c.sort_northward.ensures.moved c.requires.sites)

pub returns : goal.returns
returns g c =
    placed_answer (IsTrueMisplaced c.args.map.now) c.find_in_order.result
    (λ all. placed_moved c.args.map.now c.args.sites.now.items c.sort_northward.new.sites.items c.sort_northward.ensures.moved (subst (All (IsPlacedSite c.args.map.now)) c.deref.ensures.value all)) c.find_in_order.ensures

pub find_in_order-requires-clause-fits : goal.find_in_order-requires-clause-fits
find_in_order-requires-clause-fits g c = c.requires.fits

pub returns-in_err-near : goal.returns-in_err-near
returns-in_err-near g c = let p = err_from_is_err_and c.from_residual.result c.from_residual.ensures.1 in rw p.1 tt

pub returns-in_err-far : goal.returns-in_err-far
returns-in_err-far g c = let p = err_from_is_err_and c.from_residual-in_err-far.result c.from_residual-in_err-far.ensures.1 in rw p.1 tt

pub find_in_order-requires-clause-reach : goal.find_in_order-requires-clause-reach
find_in_order-requires-clause-reach g c = c.has_points_in_reach.ensures

pub find_in_order-requires-clause-clear : goal.find_in_order-requires-clause-clear
find_in_order-requires-clause-clear g c = record {
  nears = ap length c.deref_mut.ensures.value ∙ c.in_ok-near.ensures.long ∙ c.polygons-polygons.ensures;
  fars = ap length c.deref_mut-2.ensures.value ∙ c.in_ok-far.ensures.long ∙ c.polygons-polygons.ensures;
  no_near = subst AreNone (sym c.deref_mut.ensures.value) c.in_ok-near.ensures.none;
  no_far = subst AreNone (sym c.deref_mut-2.ensures.value) c.in_ok-far.ensures.none;
}
