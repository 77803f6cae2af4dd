use Rattle.std.proofs.Common.{◌<◌, length, ◌++◌, ◌∷◌, [], ◌∙◌, sym, ap, arith, map}
use Rattle.std.proofs.lemmas.Result.{err_from_is_err_and}
use Rattle.tigertopo_pictures.specs.Geojson.Holes.{home}
use Rattle.tigertopo_pictures.proofs.WalkLemmas.{mapped_more, many_lists}
use Rattle.tigertopo_pictures.proofs.geojson.holes.list_homes.Goals as goal

pub loop-number-preserved : goal.loop-number-preserved
loop-number-preserved c =
    let lists = map (λ w. w.items) c.args.walks.now in
    let n = c.loop-number.number in
    let within : n < length lists = omega (arith, c.loop-number-test.true, many_lists c.args.walks.now) in
    c.in_ok-push.ensures.items ∙ ap (λ l. l ++ c.home.result ∷ []) c.loop-number.invariant ∙ rw c.home.ensures (sym (mapped_more (home c.args.map.now.chains lists) lists n within))

pub returns-in_err-push : goal.returns-in_err-push
returns-in_err-push c = let p = err_from_is_err_and c.from_residual.result c.from_residual.ensures.1 in rw p.1 tt
