use Rattle.std.proofs.Common.{◌+◌, ◌*◌, arith}
use Rattle.std.proofs.lemmas.List.Elements.{All-take, All-drop}
use Rattle.std.proofs.lemmas.Result.{err_from_is_err_and}
use Rattle.tl_check_inside.specs.Keeping.Strips.{IsSiteOf, IsPlacedSite}
use Rattle.tl_check_inside.proofs.Misplacing.{told_some, told_none}
use Rattle.tl_check_inside.proofs.Stripping.{some_more, all_seen, none_below}
use Rattle.tl_check_inside.proofs.misplaced.find_in_order.Goals as goal

pub loop-batch-init : goal.loop-batch-init
loop-batch-init g c = record {
  clear = c.requires.clear;
  placed = λ j d lt inside. none_below j lt;
}

pub find_beside-requires-clause-sites : goal.find_beside-requires-clause-sites
find_beside-requires-clause-sites g c = All-take (IsSiteOf c.args.map.now) _ _ (All-drop (IsSiteOf c.args.map.now) _ _ c.requires.sites)

pub loop-batch-preserved : goal.loop-batch-preserved
loop-batch-preserved g c = record {
  clear = c.in_ok-found.ensures.clear;
  placed =
      some_more (IsPlacedSite c.args.map.now) c.args.sites.now (c.loop-batch.batch * 16) c.min-end.result ((c.loop-batch.batch + 1) * 16)
      (omega (arith, c.min-end.ensures, c.loop-batch-test.true, c.loop-batch.auto.batch-end, c.div_ceil-batch-end.ensures))
      (omega (arith, c.min-end.ensures))
      (λ k lt inside. omega (arith, c.min-end.ensures, lt, inside))
      c.loop-batch.invariant.placed
      (told_none _ _ c.in_ok-found.field-0 c.in-None.is c.in_ok-found.ensures.found);
}

pub returns : goal.returns
returns g c =
    all_seen (IsPlacedSite c.args.map.now) c.args.sites.now (c.loop-batch.batch * 16)
    (omega (arith, c.loop-batch-test.false, c.loop-batch.auto.batch-end, c.div_ceil-batch-end.ensures)) c.loop-batch.invariant.placed

pub find_beside-requires-clause-fits : goal.find_beside-requires-clause-fits
find_beside-requires-clause-fits g c = c.requires.fits

pub find_beside-requires-clause-reach : goal.find_beside-requires-clause-reach
find_beside-requires-clause-reach g c = c.requires.reach

pub find_beside-requires-clause-clear : goal.find_beside-requires-clause-clear
find_beside-requires-clause-clear g c = c.loop-batch.invariant.clear

pub returns-in-Some : goal.returns-in-Some
returns-in-Some g c = told_some _ _ c.in_ok-found.field-0 c.in-Some.found c.in-Some.is c.in_ok-found.ensures.found

pub returns-in_err-found : goal.returns-in_err-found
returns-in_err-found g c = let p = err_from_is_err_and c.from_residual.result c.from_residual.ensures.1 in rw p.1 tt
