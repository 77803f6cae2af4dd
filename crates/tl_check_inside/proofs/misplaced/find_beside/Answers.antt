use Rattle.std.proofs.Common.{sym, subst}
use Rattle.std.proofs.lemmas.Result.{err_from_is_err_and}
use Rattle.tl_check_inside.specs.Keeping.Strips.{AreEnough, IsPlacedSite}
use Rattle.tl_check_inside.proofs.Misplacing.{told_some, told_none}
use Rattle.tl_check_inside.proofs.Stripping.{one_more, none_below, under}
use Rattle.tl_check_inside.proofs.misplaced.find_beside.Goals as goal

pub loop-k-init : goal.loop-k-init
loop-k-init g c = record { clear = c.requires.clear; placed = λ j d lt. none_below j lt }

pub misplaced_at-requires-clause-enough : goal.misplaced_at-requires-clause-enough
misplaced_at-requires-clause-enough g c =
    subst (AreEnough c.args.map.now.chains _) (sym c.deref.ensures.value) (c.in_ok-list_in_strip.ensures c.loop-k.k _ c.loop-k-test.true)

pub loop-k-preserved : goal.loop-k-preserved
loop-k-preserved g c = record {
  clear = c.in_ok-found.ensures.clear;
  placed = one_more (IsPlacedSite c.args.map.now) c.args.sites.now c.loop-k.k _ c.loop-k.invariant.placed c.loop-k-test.true (told_none _ _ c.in_ok-found.field-0 c.in-None.is c.in_ok-found.ensures.found);
}

pub returns-clause-found : goal.returns-clause-found
returns-clause-found g c = λ k d lt. c.loop-k.invariant.placed k d (under k _ c.loop-k.k lt c.loop-k-test.false)

pub misplaced_at-requires-clause-is : goal.misplaced_at-requires-clause-is
misplaced_at-requires-clause-is g c = c.requires.sites c.loop-k.k _ c.loop-k-test.true

pub returns-in-Some : goal.returns-in-Some
returns-in-Some g c = record {
  found = told_some _ _ c.in_ok-found.field-0 c.in-Some.found c.in-Some.is c.in_ok-found.ensures.found;
  clear = c.in_ok-found.ensures.clear;
}

pub list_in_strip-requires-clause-fits : goal.list_in_strip-requires-clause-fits
list_in_strip-requires-clause-fits g c = c.requires.fits

pub list_in_strip-requires-clause-reach : goal.list_in_strip-requires-clause-reach
list_in_strip-requires-clause-reach g c = c.requires.reach

pub misplaced_at-requires-clause-clear : goal.misplaced_at-requires-clause-clear
misplaced_at-requires-clause-clear g c = c.loop-k.invariant.clear

pub returns-clause-clear : goal.returns-clause-clear
returns-clause-clear g c = c.loop-k.invariant.clear

pub returns-in_err-list_in_strip-clause-found : goal.returns-in_err-list_in_strip-clause-found
returns-in_err-list_in_strip-clause-found g c = let p = err_from_is_err_and c.from_residual.result c.from_residual.ensures.1 in rw p.1 tt

pub returns-in_err-list_in_strip-clause-clear : goal.returns-in_err-list_in_strip-clause-clear
returns-in_err-list_in_strip-clause-clear g c = let p = err_from_is_err_and c.from_residual.result c.from_residual.ensures.1 in rw p.1 tt

pub returns-in_err-found-clause-found : goal.returns-in_err-found-clause-found
returns-in_err-found-clause-found g c = let p = err_from_is_err_and c.from_residual-in_err-found.result c.from_residual-in_err-found.ensures.1 in rw p.1 tt

pub returns-in_err-found-clause-clear : goal.returns-in_err-found-clause-clear
returns-in_err-found-clause-clear g c = let p = err_from_is_err_and c.from_residual-in_err-found.result c.from_residual-in_err-found.ensures.1 in rw p.1 tt
