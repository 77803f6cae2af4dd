use Rattle.std.proofs.Common.{ap, ◌∙◌, arith, refl, take_all, ◌+◌}
use Rattle.std.specs.Prelude.{sum_by}
use Rattle.tigertopo_border.specs.Border.{border_segments}
use Rattle.tigertopo_border.proofs.CountLemmas.{segments_more, few_segments}
use Rattle.tigertopo_border.proofs.counts.segment_count.Goals as goal

pub overflow_add-count : goal.overflow_add-count
overflow_add-count c =
    let more = segments_more c.args.map.now c.args.map.now.chains c.loop-number.number refl (omega (arith, c.chains-number-end.ensures, c.loop-number-test.true)) in
    let few = few_segments c.args.map.now (c.loop-number.number + 1) in
    omega (arith, more, few, c.loop-number.invariant, c.segments_at-count.ensures, c.segments.ensures.count, c.segments.ensures.few)

pub loop-number-preserved : goal.loop-number-preserved
loop-number-preserved c =
    let more = segments_more c.args.map.now c.args.map.now.chains c.loop-number.number refl (omega (arith, c.chains-number-end.ensures, c.loop-number-test.true)) in
    omega (arith, more, c.loop-number.invariant, c.segments_at-count.ensures)

pub returns : goal.returns
returns c =
    c.loop-number.invariant ∙ ap (sum_by border_segments) (take_all c.loop-number.number c.args.map.now.chains (omega (arith, c.chains-number-end.ensures, c.loop-number-test.false)))
