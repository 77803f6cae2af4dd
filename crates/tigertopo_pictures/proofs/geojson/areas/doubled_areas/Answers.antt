use Rattle.std.proofs.Common.{◌≡◌, ◌*◌, arith, length}
use Rattle.std.proofs.lemmas.Result.{err_from_is_err_and}
use Rattle.tigertopo_pictures.proofs.geojson.areas.doubled_areas.Goals as goal

pub returns : goal.returns
returns c =
    let chains = c.args.map.now.chains in
    let all : c.loop-dart.dart ≡ 2 * length chains = omega (arith, c.darts-dart-end.ensures, c.loop-dart-test.false, c.loop-dart.auto.dart-end) in
    record {
      long = c.loop-dart.invariant.long;
      each = λ p within. rw (← all) (c.loop-dart.invariant.areas p within);
      small = λ p within. omega (arith, (rw all at c.loop-dart.invariant.bound p within), c.darts-dart-end.ensures, c.darts-dart-end.type_inv);
    }

pub returns-in_err-areas : goal.returns-in_err-areas
returns-in_err-areas c = let p = err_from_is_err_and c.from_residual.result c.from_residual.ensures.1 in rw p.1 tt
