use Rattle.std.proofs.lemmas.Result.{err_from_is_err_and}
use Rattle.tl_check_inside.specs.Placed.{IsTrueMisplaced}
use Rattle.tl_check_inside.proofs.Sites.{are_placed}
use Rattle.tl_check_inside.proofs.Stripping.{placed_answer}
use Rattle.tl_check_inside.proofs.misplaced.find_misplaced.Goals as goal

pub returns : goal.returns
returns g c =
    placed_answer (IsTrueMisplaced c.args.map.now) c.find_among.result
    (λ all. are_placed c.args.map.now c.in_ok-sites.sites.items all c.in_ok-sites.ensures.whole) c.find_among.ensures

pub returns-in_err-sites : goal.returns-in_err-sites
returns-in_err-sites g c = let p = err_from_is_err_and c.from_residual.result c.from_residual.ensures.1 in rw p.1 tt

pub find_among-requires-clause-fits : goal.find_among-requires-clause-fits
find_among-requires-clause-fits g c = c.requires.fits

pub find_among-requires-clause-sites : goal.find_among-requires-clause-sites
find_among-requires-clause-sites g c = c.in_ok-sites.ensures.sites
