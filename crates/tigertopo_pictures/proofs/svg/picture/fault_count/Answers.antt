use Rattle.std.proofs.Common.{◌+◌, arith, refl, Option}
use Rattle.std.specs.Prelude.{cond}
use Rattle.std.proofs.lemmas.Option.{slice_get_read}
use Rattle.tl_geom.specs.declared.rational.Rational.{Rational}
use Rattle.tigertopo_pictures.specs.Svg.Pictures.{is_place_inside}
use Rattle.tigertopo_pictures.proofs.SvgLemmas.DrawingLemmas.{fold_next, fold_end, one_if, at_most_one}
use Rattle.tigertopo_pictures.proofs.svg.picture.fault_count.Goals as goal

pub loop-place-preserved : goal.loop-place-preserved
loop-place-preserved c = record {
  counted = fold_next (λ a (place : Option Rational). a + cond (is_place_inside c.args.frame place) 1 0) c.args.places.now c.loop-place.place-index c.place-item.result _ _ _
      (slice_get_read c.args.places.now _ _ _ refl c.loop-place-test.true c.place-item.is) (one_if _ _ _ c.loop-place.count c.from-count.ensures c.is_place_inside.ensures) c.loop-place.invariant.counted;
  bound = omega (arith, at_most_one _ _ c.from-count.ensures);
}

pub returns : goal.returns
returns c =
    fold_end (λ a (place : Option Rational). a + cond (is_place_inside c.args.frame place) 1 0) c.args.places.now c.loop-place.place-index _ _
    c.loop-place-test.false c.loop-place.invariant.counted
