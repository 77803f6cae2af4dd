use Rattle.std.proofs.Common.{◌+◌, ◌∙◌, arith}
use Rattle.std.specs.Prelude.{cond}
use Rattle.tigertopo_pictures.specs.Svg.Strokes.{Drawing, is_shown}
use Rattle.tigertopo_pictures.proofs.SvgLemmas.DrawingLemmas.{counted_next, counted_end, one_if, at_most_one, shown_if}
use Rattle.tigertopo_pictures.proofs.svg.picture.chain_count.Goals as goal

pub loop-number-preserved : goal.loop-number-preserved
loop-number-preserved c = record {
  counted = counted_next (λ a (d : Drawing). a + cond (is_shown d) 1 0) c.args.picture.frame c.args.map.now.chains c.loop-number.number _ _ _ _ _ _ _ c.chain.ensures.chain
      (one_if _ _ _ c.loop-number.count c.from-count.ensures (c.is_some.ensures ∙ shown_if c.next.result _ _ _ c.chain.result.points.now c.walk_along-walk.ensures.strokes c.next.ensures)) c.loop-number.invariant.counted;
  bound = omega (arith, at_most_one _ _ c.from-count.ensures);
}

pub returns : goal.returns
returns c =
    counted_end (λ a (d : Drawing). a + cond (is_shown d) 1 0) c.args.picture.frame c.args.map.now.chains c.loop-number.number _ _
    (omega (arith, c.chains-number-end.ensures, c.loop-number-test.false)) c.loop-number.invariant.counted
