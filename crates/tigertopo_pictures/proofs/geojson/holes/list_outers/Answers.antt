use Rattle.std.proofs.Common.{◌<◌, length, ◌++◌, ◌∷◌, [], ◌∙◌, sym, ap, arith, map}
use Rattle.std.proofs.lemmas.Result.{err_from_is_err_and}
use Rattle.tigertopo_pictures.specs.Geojson.Holes.{outer_polygon}
use Rattle.tigertopo_pictures.proofs.WalkLemmas.{mapped_more, many_lists}
use Rattle.tigertopo_pictures.proofs.geojson.holes.list_outers.Goals as goal

pub loop-number-preserved : goal.loop-number-preserved
loop-number-preserved c =
    let lists = map (λ w. w.items) c.args.walks.now in
    let n = c.loop-number.number in
    let within : n < length lists = omega (arith, c.loop-number-test.true, many_lists c.args.walks.now) in
    c.in_ok-push.ensures.items ∙ ap (λ l. l ++ c.outer_polygon.result ∷ []) c.loop-number.invariant ∙ rw c.outer_polygon.ensures (sym (mapped_more (outer_polygon c.args.map.now.chains) lists n within))

pub returns-in_err-push : goal.returns-in_err-push
returns-in_err-push c = let p = err_from_is_err_and c.from_residual.result c.from_residual.ensures.1 in rw p.1 tt
