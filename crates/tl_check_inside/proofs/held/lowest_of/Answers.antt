use Rattle.std.proofs.Common.{sym, refl, ◌∙◌}
use Rattle.std.proofs.lemmas.Bool.{false≢true}
use Rattle.tl_check_inside.proofs.Holding.{none_held, least_below, is_hit, lowest}
use Rattle.tl_check_inside.proofs.Hitting.{spot_hit}
use Rattle.tl_check_inside.proofs.held.lowest_of.Goals as goal

pub segment-requires : goal.segment-requires
segment-requires c =
    least_below c.args.map.now.chains c.args.point c.args.hits.now c.requires c.in-Some.s c.in-Some.ensures

pub segment_chain-requires : goal.segment_chain-requires
segment_chain-requires c =
    least_below c.args.map.now.chains c.args.point c.args.hits.now c.requires c.in-Some.s c.in-Some.ensures

pub returns-in-Some : goal.returns-in-Some
returns-in-Some c =
    lowest c.args.map.now.chains c.args.point c.args.hits.now c.requires c.in-Some.s c.segment_chain.result c.segment_chain.ensures.0 c.segment.ensures.0 c.segment.ensures.1 c.segment.result c.in-Some.ensures
    c.segment_chain.ensures.1 c.segment.ensures.2 c.segment.ensures.3 (c.on.ensures.0 c.if-on.true)

pub unreachable-requires : goal.unreachable-requires
unreachable-requires c =
    is_hit c.args.map.now.chains c.args.point c.args.hits.now c.requires c.in-Some.s c.in-Some.ensures
    (λ h. false≢true (sym c.if-on.false ∙ (spot_hit c.args.map.now.chains c.args.map.now.chains c.args.point c.in-Some.s c.segment.ensures.0 c.segment.ensures.1 c.segment.result c.on.result refl c.segment.ensures.2 c.segment.ensures.3 c.on.ensures).1 h))

pub returns-in-None : goal.returns-in-None
returns-in-None c =
    none_held c.args.map.now.chains c.args.point c.args.hits.now c.requires c.in-None.ensures
