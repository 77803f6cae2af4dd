use Rattle.std.proofs.Common.{◌<◌, length, ◌++◌, ◌∷◌, [], ◌∙◌, sym, ap, arith, map}
use Rattle.std.proofs.lemmas.List.{length-map, take_all}
use Rattle.std.proofs.lemmas.Result.{err_from_is_err_and}
use Rattle.tigertopo_pictures.specs.Walks.{walk_polygon}
use Rattle.tigertopo_pictures.proofs.WalkLemmas.{mapped_more, many_lists}
use Rattle.tigertopo_pictures.proofs.svg.fills.polygons_of.Goals as goal

pub loop-number-preserved : goal.loop-number-preserved
loop-number-preserved c =
    let lists = map (λ w. w.items) c.args.walks.now in
    let n = c.loop-number.number in
    let within : n < length lists = omega (arith, c.loop-number-test.true, many_lists c.args.walks.now) in
    let polygon = c.walk_polygon.ensures.polygon ∙ ap (walk_polygon c.args.map.now.chains) c.walk_at.ensures.walk in
    c.in_ok-push.ensures.items ∙ ap (λ l. l ++ c.walk_polygon.result ∷ []) c.loop-number.invariant ∙ rw polygon (sym (mapped_more (walk_polygon c.args.map.now.chains) lists n within))

pub returns-in_err-push : goal.returns-in_err-push
returns-in_err-push c = let p = err_from_is_err_and c.from_residual.result c.from_residual.ensures.1 in rw p.1 tt

pub walk_at-requires : goal.walk_at-requires
walk_at-requires c = c.loop-number-test.true

pub walk_polygon-requires : goal.walk_polygon-requires
walk_polygon-requires c = record { some = c.walk_at.ensures.some c.args.map.now.chains c.requires; darts = c.walk_at.ensures.darts c.args.map.now.chains c.requires }

pub loop-number-init : goal.loop-number-init
loop-number-init c = c.new-list.ensures.items

pub returns : goal.returns
returns c =
    let lists = map (λ w. w.items) c.args.walks.now in
    let made = walk_polygon c.args.map.now.chains in
    c.loop-number.invariant ∙ take_all c.loop-number.number (map made lists) (omega (arith, c.loop-number-test.false, length-map lists made, many_lists c.args.walks.now))
