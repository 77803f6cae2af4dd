use Rattle.std.proofs.Common.{sym, subst, ◌∙◌}
use Rattle.std.proofs.lemmas.Option.{slice_get_within}
use Rattle.std.proofs.lemmas.Result.{err_from_is_err_and}
use Rattle.tl_check_inside.specs.Keeping.Tallies.{TellCounts}
use Rattle.tl_check_inside.specs.Placed.{IsTrueMisplaced}
use Rattle.tl_check_inside.specs.Keeping.Strips.{AreEnough}
use Rattle.tl_check_inside.proofs.Misplacing.{told_some, told_none, at_its_point, placed_site}
use Rattle.tl_check_inside.proofs.misplaced.misplaced_at.Goals as goal

pub misplaced_by-requires-clause-tell : goal.misplaced_by-requires-clause-tell
misplaced_by-requires-clause-tell c =
    subst (TellCounts c.args.map.now.chains c.polygon-polygon.result.point) (sym c.deref.ensures.value)
    (told_none _ _ c.in_ok-c.field-0 c.in-None.is c.in_ok-c.ensures.tell)

pub sift-requires : goal.sift-requires
sift-requires c = record {
  enough =
      subst (λ q. AreEnough c.args.map.now.chains q c.args.hits.now)
      (at_its_point c.args.map.now c.args.site c.polygon-polygon.result c.requires.is c.polygon-polygon.ensures) c.requires.enough;
}

pub on_chain-requires : goal.on_chain-requires
on_chain-requires c = told_some _ _ c.in_ok-c.field-0 c.in-Some.c c.in-Some.is c.in_ok-c.ensures.held

pub misplaced_by-requires-clause-is : goal.misplaced_by-requires-clause-is
misplaced_by-requires-clause-is c = c.polygon-polygon.ensures

pub misplaced_by-requires-clause-off : goal.misplaced_by-requires-clause-off
misplaced_by-requires-clause-off c = told_none _ _ c.in_ok-c.field-0 c.in-None.is c.in_ok-c.ensures.held

pub returns-in-Some : goal.returns-in-Some
returns-in-Some c = record {
  found = c.on_chain.ensures c.args.site.polygon c.polygon-polygon.ensures;
  clear = c.requires.clear;
}

pub returns-in-None : goal.returns-in-None
returns-in-None c = record {
  found = placed_site c.args.map.now c.args.site c.polygon-polygon.result (IsTrueMisplaced c.args.map.now) c.misplaced_by.result c.polygon-polygon.ensures c.misplaced_by.ensures.found;
  clear = record {
    nears = c.misplaced_by.ensures.nears ∙ c.requires.clear.nears;
    fars = c.misplaced_by.ensures.fars ∙ c.requires.clear.fars;
    no_near = c.misplaced_by.ensures.no_near;
    no_far = c.misplaced_by.ensures.no_far;
  };
}

pub misplaced_by-requires-clause-nears : goal.misplaced_by-requires-clause-nears
misplaced_by-requires-clause-nears c = c.requires.clear.nears

pub misplaced_by-requires-clause-fars : goal.misplaced_by-requires-clause-fars
misplaced_by-requires-clause-fars c = c.requires.clear.fars

pub misplaced_by-requires-clause-no_near : goal.misplaced_by-requires-clause-no_near
misplaced_by-requires-clause-no_near c = c.requires.clear.no_near

pub misplaced_by-requires-clause-no_far : goal.misplaced_by-requires-clause-no_far
misplaced_by-requires-clause-no_far c = c.requires.clear.no_far

pub returns-in_err-c-clause-found : goal.returns-in_err-c-clause-found
returns-in_err-c-clause-found c = let p = err_from_is_err_and c.from_residual.result c.from_residual.ensures.1 in rw p.1 tt

pub polygon-polygon-requires : goal.polygon-polygon-requires
polygon-polygon-requires c = let of = c.requires.is in slice_get_within c.args.map.now.polygons c.args.site.polygon of.polygon of.is

pub returns-in_err-c-clause-clear : goal.returns-in_err-c-clause-clear
returns-in_err-c-clause-clear c = let p = err_from_is_err_and c.from_residual.result c.from_residual.ensures.1 in rw p.1 tt
