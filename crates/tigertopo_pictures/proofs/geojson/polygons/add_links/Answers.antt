use Rattle.std.proofs.Common.{Some, sym}
use Rattle.std.proofs.lemmas.List.{append-nil, take_all}
use Rattle.std.proofs.lemmas.Result.{err_from_is_err_and}
use Rattle.tigertopo_pictures.proofs.GeojsonLemmas.TextLemmas.{one_behind}
use Rattle.tigertopo_pictures.proofs.geojson.polygons.add_links.Goals as goal

pub loop-polygon-init : goal.loop-polygon-init
loop-polygon-init c = (sym (append-nil c.args.lands.now.items), sym (append-nil c.args.polygons.now.items))

pub loop-polygon-preserved : goal.loop-polygon-preserved
loop-polygon-preserved c =
    let polygons = c.args.landmark.now.polygons.now in
    let i = c.loop-polygon.polygon-index in (
      rw (c.in_ok-push.ensures.items, c.loop-polygon.invariant.0) (one_behind (λ p. c.args.landmark.now.land) c.args.lands.now.items polygons i 0 c.loop-polygon-test.true),
      rw (c.in_ok-push-2.ensures.items, c.loop-polygon.invariant.1) (one_behind Some c.args.polygons.now.items polygons i 0 c.loop-polygon-test.true),
    )

pub returns : goal.returns
returns c =
    let all = take_all c.loop-polygon.polygon-index c.args.landmark.now.polygons.now c.loop-polygon-test.false in
    record { lands = rw all at c.loop-polygon.invariant.0; polygons = rw all at c.loop-polygon.invariant.1 }

pub returns-in_err-push : goal.returns-in_err-push
returns-in_err-push c = let p = err_from_is_err_and c.from_residual.result c.from_residual.ensures.1 in rw p.1 (record { lands = tt; polygons = tt })

pub returns-in_err-push-2 : goal.returns-in_err-push-2
returns-in_err-push-2 c = let p = err_from_is_err_and c.from_residual-in_err-push-2.result c.from_residual-in_err-push-2.ensures.1 in rw p.1 (record { lands = tt; polygons = tt })
