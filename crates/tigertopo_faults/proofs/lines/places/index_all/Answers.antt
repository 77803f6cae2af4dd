use Rattle.std.proofs.Common.{arith}
use Rattle.std.proofs.lemmas.Result.{err_from_is_err_and}
use Rattle.tigertopo_faults.proofs.LinesLemmas.PlacesLemmas.{keyed_none, keyed_more, keyed_all}
use Rattle.tigertopo_faults.proofs.lines.places.index_all.Goals as goal

pub loop-left-init : goal.loop-left-init
loop-left-init c = record {
  within = omega (arith, c.polygons-left.ensures);
  keyed = keyed_none c.args.map.now.polygons c.in_ok-index.index.entries _ c.in_ok-index.ensures.empty (omega (arith, c.polygons-left.ensures));
}

pub loop-left-preserved : goal.loop-left-preserved
loop-left-preserved c = record {
  within = omega (arith, c.loop-left.invariant.within);
  keyed = keyed_more c.args.map.now.polygons c.loop-left.index.entries c.insert.new.self.entries _ _ _ (omega arith) c.polygon-polygon.ensures c.loop-left.invariant.keyed c.in_ok-insert.ensures.updates.0;
}

pub returns : goal.returns
returns c = keyed_all c.args.map.now.polygons c.loop-left.index.entries c.loop-left.left (omega (arith, c.loop-left-test.false)) c.loop-left.invariant.keyed

pub returns-in_err-index : goal.returns-in_err-index
returns-in_err-index c = let p = err_from_is_err_and c.from_residual.result c.from_residual.ensures.1 in rw p.1 tt

pub returns-in_err-insert : goal.returns-in_err-insert
returns-in_err-insert c = let p = err_from_is_err_and c.from_residual-in_err-insert.result c.from_residual-in_err-insert.ensures.1 in rw p.1 tt
