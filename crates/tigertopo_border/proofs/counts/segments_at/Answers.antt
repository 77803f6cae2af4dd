use Rattle.std.proofs.Common.{sym, ◌∙◌, arith}
use Rattle.tigertopo_border.proofs.CountLemmas.{few_points, segments_there, no_segments_there}
use Rattle.tigertopo_border.proofs.counts.segments_at.Goals as goal

pub overflow_cast-result : goal.overflow_cast-result
overflow_cast-result c =
    let few = few_points c.args.map.now c.args.number _ _ _ _ c.chain-chain.ensures.chain in
    omega (arith, few, c.segments.ensures.count, c.segments.ensures.few)

pub returns-then-has_blank : goal.returns-then-has_blank
returns-then-has_blank c = segments_there c.args.map.now c.args.number _ _ _ _ c.chain-chain.ensures.chain (sym c.has_blank.ensures ∙ c.if-has_blank.true)

pub returns-else-has_blank : goal.returns-else-has_blank
returns-else-has_blank c = no_segments_there c.args.map.now c.args.number _ _ _ _ c.chain-chain.ensures.chain (sym c.has_blank.ensures ∙ c.if-has_blank.false)
