use Rattle.std.proofs.Common.{Some, ap, sym, ◌∙◌, arith}
use Rattle.std.proofs.lemmas.Option.{slice_get_within}
use Rattle.tl_check_planar.proofs.Sharing.{same_chain, other_chain}
use Rattle.tl_check_planar.proofs.allowed.allowed_points.Goals as goal

pub returns-then-c-d : goal.returns-then-c-d
returns-then-c-d c =
    same_chain c.args.map.now.chains c.args.s c.args.t c.segment_chain-c.result c.segment_chain-d.result c.chain.result.points.now c.args.one c.allowed_within.result c.requires.ordered
    (record { k = c.segment_chain-c.ensures.0; number = c.segment_chain-c.ensures.1; chain = c.chain.ensures.chain.chain; is = c.chain.ensures.chain.is; points_are = c.chain.ensures.chain.points_are })
    c.segment_chain-d.ensures c.if-c-d.true c.requires.first
    (λ i j r e lt at. c.allowed_within.ensures i j r e lt (at ∙ ap Some (sym c.b.ensures)))

pub returns-else-c-d : goal.returns-else-c-d
returns-else-c-d c =
    other_chain c.args.map.now.chains c.args.s c.args.t c.segment_chain-c.result c.segment_chain-d.result c.chain.result.points.now c.chain-else-c-d.result.points.now c.allowed_between.result
    (record { k = c.segment_chain-c.ensures.0; number = c.segment_chain-c.ensures.1; chain = c.chain.ensures.chain.chain; is = c.chain.ensures.chain.is; points_are = c.chain.ensures.chain.points_are })
    (record { k = c.segment_chain-d.ensures.0; number = c.segment_chain-d.ensures.1; chain = c.chain-else-c-d.ensures.chain.chain; is = c.chain-else-c-d.ensures.chain.is; points_are = c.chain-else-c-d.ensures.chain.points_are })
    c.if-c-d.false c.allowed_between.ensures

pub chain-requires : goal.chain-requires
chain-requires c = let number = c.segment_chain-c.ensures.1 in slice_get_within _ _ number.chain number.is

pub allowed_within-requires : goal.allowed_within-requires
allowed_within-requires c = omega (arith, c.chain.ensures.points)

pub allowed_between-requires-clause-one : goal.allowed_between-requires-clause-one
allowed_between-requires-clause-one c = omega (arith, c.chain.ensures.points)

pub allowed_between-requires-clause-other : goal.allowed_between-requires-clause-other
allowed_between-requires-clause-other c = omega (arith, c.chain-else-c-d.ensures.points)
