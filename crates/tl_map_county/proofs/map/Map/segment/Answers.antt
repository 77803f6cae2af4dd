use Rattle.std.proofs.Common.{◌<◌, length, arith}
use Rattle.tl_map_county.proofs.SegmentLemmas.{all_numbered, numbered, segment_of, joins}
use Rattle.tl_map_county.proofs.map.Map.segment.Goals as goal

pub index-requires : goal.index-requires
index-requires c =
    let all = all_numbered c.self.inside.chains.chains c.self.inside.sides c.self.inside.segment_chains.items c.self.invariant.0 c.self.invariant.5 in
    omega (arith, all, c.self.inside.segment_chains.ok.0, rw (← c.self.view_is) at c.requires)

pub segment-requires-clause-number : goal.segment-requires-clause-number
segment-requires-clause-number c =
    let all = all_numbered c.self.inside.chains.chains c.self.inside.sides c.self.inside.segment_chains.items c.self.invariant.0 c.self.invariant.5 in
    let lt : c.args.s < length c.self.inside.segment_chains.items = omega (arith, all, rw (← c.self.view_is) at c.requires) in
    numbered c.self.inside.chains.chains c.self.inside.segment_chains.items c.args.s c.index.result.now c.self.invariant.5 lt c.index.ensures

pub segment-requires-clause-proper : goal.segment-requires-clause-proper
segment-requires-clause-proper c = c.self.invariant.4

pub returns : goal.returns
returns c =
    let cs = c.self.inside.chains.chains in
    let ss = c.self.inside.sides in
    let all = all_numbered cs ss c.self.inside.segment_chains.items c.self.invariant.0 c.self.invariant.5 in
    let lt : c.args.s < length c.self.inside.segment_chains.items = omega (arith, all, rw (← c.self.view_is) at c.requires) in
    let found = numbered cs c.self.inside.segment_chains.items c.args.s c.index.result.now c.self.invariant.5 lt c.index.ensures in
    let number = segment_of cs ss c.args.s c.index.result.now found.0 c.self.invariant.0 found.1 in
    let joined = joins cs ss c.args.s c.index.result.now found.0 c.segment.result c.self.invariant.0 found.1 (c.segment.ensures found.0 found.1) in
    rw (← c.self.view_is) (c.index.result.now, found.0, number, joined)
