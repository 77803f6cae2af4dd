use Rattle.std.proofs.Common.{ap, ◌∙◌, arith, take_all}
use Rattle.std.specs.Prelude.{count_by}
use Rattle.tigertopo_border.specs.Whole.Borders.{has_blank}
use Rattle.tigertopo_border.proofs.CountLemmas.{counted_more, one_at_most}
use Rattle.tigertopo_border.proofs.counts.chain_count.Goals as goal

pub overflow_add-count : goal.overflow_add-count
overflow_add-count c = omega (arith, one_at_most _ _ c.from-count.ensures, c.loop-number.invariant.bound)

pub loop-number-preserved : goal.loop-number-preserved
loop-number-preserved c = record {
  counted = counted_more c.args.map.now.chains c.loop-number.number _ c.loop-number.count _ _ _ c.has_blank.result c.from-count.result c.chain.ensures.chain c.has_blank.ensures c.from-count.ensures c.loop-number.invariant.counted;
  bound = omega (arith, one_at_most _ _ c.from-count.ensures, c.loop-number.invariant.bound);
}

pub returns : goal.returns
returns c =
    c.loop-number.invariant.counted ∙ ap (count_by has_blank) (take_all c.loop-number.number c.args.map.now.chains (omega (arith, c.chains-number-end.ensures, c.loop-number-test.false)))
