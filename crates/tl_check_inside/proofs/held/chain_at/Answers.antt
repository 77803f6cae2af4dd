use Rattle.std.proofs.lemmas.Result.{err_from_is_err_and}
use Rattle.tl_check_inside.proofs.Holding.{hits_of}
use Rattle.tl_check_inside.proofs.held.chain_at.Goals as goal

pub lowest_of-requires : goal.lowest_of-requires
lowest_of-requires g c =
    hits_of c.new.result c.args.map.now.chains c.args.point _ _ c.deref.result.now c.in_ok-collect_hits.ensures.hits c.new.ensures c.clear.ensures.items c.deref.ensures.value

pub returns-in_err-collect_hits : goal.returns-in_err-collect_hits
returns-in_err-collect_hits g c = let p = err_from_is_err_and c.from_residual.result c.from_residual.ensures.1 in rw p.1 tt

pub returns : goal.returns
returns g c = c.lowest_of.ensures
