use Rattle.std.proofs.Common.{◌+◌, arith}
use Rattle.std.specs.Prelude.{cond}
use Rattle.tl_map_county.specs.declared.polygons.Polygon.{Polygon}
use Rattle.tigertopo_pictures.specs.Svg.Frames.{is_inside}
use Rattle.tigertopo_pictures.proofs.SvgLemmas.DrawingLemmas.{fold_next, fold_end, one_if, at_most_one}
use Rattle.tigertopo_pictures.proofs.svg.picture.point_count.Goals as goal

pub loop-number-preserved : goal.loop-number-preserved
loop-number-preserved c = record {
  counted = fold_next (λ a (p : Polygon). a + cond (is_inside c.args.frame p.point) 1 0) c.args.map.now.polygons c.loop-number.number c.polygon.result _ _ _ c.polygon.ensures
      (one_if _ _ _ c.loop-number.count c.from-count.ensures c.has_inside.ensures) c.loop-number.invariant.counted;
  bound = omega (arith, at_most_one _ _ c.from-count.ensures);
}

pub returns : goal.returns
returns c =
    fold_end (λ a (p : Polygon). a + cond (is_inside c.args.frame p.point) 1 0) c.args.map.now.polygons c.loop-number.number _ _
    (omega (arith, c.polygons-number-end.ensures, c.loop-number-test.false)) c.loop-number.invariant.counted
