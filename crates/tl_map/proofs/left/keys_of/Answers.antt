use Rattle.std.proofs.Common.{pos, [], map, ap, ◌∙◌, sym}
use Rattle.std.proofs.lemmas.List.{map_more, take_all}
use Rattle.std.proofs.lemmas.Result.{err_from_is_err_and}
use Rattle.tl_map_county.specs.declared.polygons.Polygon.{Polygon}
use Rattle.tl_map.proofs.left.keys_of.Goals as goal

pub loop-polygon-init : goal.loop-polygon-init
loop-polygon-init c = c.in_ok-made.ensures.items

pub loop-polygon-preserved : goal.loop-polygon-preserved
loop-polygon-preserved c =
    let d : Polygon = record { key = record { cenid = []; polyid = 0 }; point = record { x = pos 0; y = pos 0 } } in
    rw (c.in_ok-push.ensures.items, c.loop-polygon.invariant) (sym (map_more (λ (x : Polygon). x.key) c.args.polygons.now c.loop-polygon.polygon-index d c.loop-polygon-test.true))

pub returns : goal.returns
returns c = c.loop-polygon.invariant ∙ ap (map (λ (x : Polygon). x.key)) (take_all c.loop-polygon.polygon-index c.args.polygons.now c.loop-polygon-test.false)

pub returns-in_err-made : goal.returns-in_err-made
returns-in_err-made c = let p = err_from_is_err_and c.from_residual.result c.from_residual.ensures.1 in rw p.1 tt

pub returns-in_err-push : goal.returns-in_err-push
returns-in_err-push c = let p = err_from_is_err_and c.from_residual-in_err-push.result c.from_residual-in_err-push.ensures.1 in rw p.1 tt
