use Rattle.std.proofs.Common.{◌++◌, ◌∷◌, [], take, ap, sym, ◌∙◌, arith}
use Rattle.std.proofs.lemmas.Result.{err_from_is_err_and}
use Rattle.std.proofs.lemmas.List.{take_more, take_all}
use Rattle.std.proofs.lemmas.Option.{get_or_from_slice_get, slice_get_within}
use Rattle.tl_check_points.proofs.listing.hiding.polygons_of.Goals as goal

pub loop-p-init : goal.loop-p-init
loop-p-init c = c.in_ok-polygons.ensures.items

pub loop-p-preserved : goal.loop-p-preserved
loop-p-preserved c =
    let ps = c.args.map.now.polygons in
    let polygon = c.polygon.result in
    let lt = slice_get_within ps c.loop-p.p polygon c.polygon.ensures in
    c.in_ok-push.ensures.items ∙ ap (λ l. l ++ polygon ∷ []) c.loop-p.invariant
    ∙ sym (take_more ps c.loop-p.p polygon lt ∙ ap (λ x. take c.loop-p.p ps ++ x ∷ []) (get_or_from_slice_get ps c.loop-p.p polygon polygon c.polygon.ensures))

pub returns : goal.returns
returns c =
    c.loop-p.invariant ∙ take_all c.loop-p.p c.args.map.now.polygons (let past = c.loop-p-test.false in omega (arith, past, c.polygons-p-end.ensures, c.loop-p.auto.p-end))

pub returns-in_err-polygons : goal.returns-in_err-polygons
returns-in_err-polygons c = let p = err_from_is_err_and c.from_residual.result c.from_residual.ensures.1 in rw p.1 tt

pub returns-in_err-push : goal.returns-in_err-push
returns-in_err-push c = let p = err_from_is_err_and c.from_residual-in_err-push.result c.from_residual-in_err-push.ensures.1 in rw p.1 tt
