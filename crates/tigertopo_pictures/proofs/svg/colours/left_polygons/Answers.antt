use Rattle.std.proofs.Common.{◌≡◌, ◌*◌, ◌∷◌, [], length, None, sym, ap, ◌∙◌, arith, length-append}
use Rattle.std.proofs.lemmas.Result.{err_from_is_err_and}
use Rattle.tigertopo_pictures.specs.Walks.{polygon_on}
use Rattle.tigertopo_pictures.specs.Svg.Colours.{left_polygon}
use Rattle.tigertopo_pictures.proofs.SvgLemmas.ColourLemmas.{each_more}
use Rattle.tigertopo_pictures.proofs.svg.colours.left_polygons.Goals as goal

pub loop-dart-init : goal.loop-dart-init
loop-dart-init c = record { long = ap length c.in_ok-lefts.ensures.items; each = λ d less. absurd (omega arith) }

pub loop-dart-preserved : goal.loop-dart-preserved
loop-dart-preserved c =
    let chains = c.args.map.now.chains in
    let before = c.loop-dart.invariant in
    let lefts = c.loop-dart.lefts.items in
    record {
      long = rw c.in_ok-push.ensures.items (omega (arith, length-append lefts (c.polygon_of.result ∷ []), before.long));
      each = rw c.in_ok-push.ensures.items (each_more lefts c.loop-dart.dart c.polygon_of.result None (left_polygon chains) before.long before.each (c.polygon_of.ensures.polygon ∙ ap polygon_on (sym c.dart_left.ensures.left)));
    }

pub returns : goal.returns
returns c =
    let before = c.loop-dart.invariant in
    let all : c.loop-dart.dart ≡ 2 * length c.args.map.now.chains = omega (arith, c.loop-dart.auto.dart-end, c.loop-dart-test.false, c.darts-dart-end.ensures) in
    record { all = before.long ∙ all; each = λ d within. before.each d (omega (arith, within, all)) }

pub returns-in_err-lefts : goal.returns-in_err-lefts
returns-in_err-lefts c = let p = err_from_is_err_and c.from_residual.result c.from_residual.ensures.1 in rw p.1 tt

pub returns-in_err-push : goal.returns-in_err-push
returns-in_err-push c = let p = err_from_is_err_and c.from_residual-in_err-push.result c.from_residual-in_err-push.ensures.1 in rw p.1 tt
