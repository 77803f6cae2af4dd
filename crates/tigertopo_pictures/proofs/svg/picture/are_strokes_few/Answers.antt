use Rattle.std.proofs.Common.{◌+◌, ◌∙◌, ap, arith, drop, length}
use Rattle.tigertopo_pictures.specs.Svg.Strokes.{Drawing, drawings}
use Rattle.tigertopo_pictures.proofs.SvgLemmas.DrawingLemmas.{counted_next, counted_end, counted_many, counted_few}
use Rattle.tigertopo_pictures.proofs.svg.picture.are_strokes_few.Goals as goal

pub returns-then-count-most : goal.returns-then-count-most
returns-then-count-most c =
    counted_many _ _ _ (drawings c.args.frame (drop (c.loop-number.number + 1) c.args.map.now.chains)) c.if-count-most.true
    (counted_next (λ a (d : Drawing). a + length d.strokes) c.args.frame c.args.map.now.chains c.loop-number.number _ _ _ _ _ _ _ c.chain.ensures.chain
    (ap (λ n. c.loop-number.count + n) (c.from-count.ensures ∙ c.count_strokes.ensures ∙ ap length c.walk_along-walk.ensures.strokes)) c.loop-number.invariant.counted)

pub loop-number-preserved : goal.loop-number-preserved
loop-number-preserved c = record {
  counted = counted_next (λ a (d : Drawing). a + length d.strokes) c.args.frame c.args.map.now.chains c.loop-number.number _ _ _ _ _ _ _ c.chain.ensures.chain
      (ap (λ n. c.loop-number.count + n) (c.from-count.ensures ∙ c.count_strokes.ensures ∙ ap length c.walk_along-walk.ensures.strokes)) c.loop-number.invariant.counted;
  bound = omega (arith, c.from-count.ensures, c.count_strokes.type_inv, c.loop-number.invariant.bound);
  few = omega arith;
}

pub returns : goal.returns
returns c =
    counted_few _ _ _ c.loop-number.invariant.few
    (counted_end (λ a (d : Drawing). a + length d.strokes) c.args.frame c.args.map.now.chains c.loop-number.number _ _
    (omega (arith, c.chains-number-end.ensures, c.loop-number-test.false)) c.loop-number.invariant.counted)
