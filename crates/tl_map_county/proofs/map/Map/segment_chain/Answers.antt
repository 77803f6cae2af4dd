use Rattle.std.proofs.Common.{◌<◌, length, arith}
use Rattle.tl_map_county.proofs.SegmentLemmas.{all_numbered, numbered, segment_of}
use Rattle.tl_map_county.proofs.map.Map.segment_chain.Goals as goal

pub index-requires : goal.index-requires
index-requires c =
    let all = all_numbered c.self.inside.chains.chains c.self.inside.sides c.self.inside.segment_chains.items c.self.invariant.0 c.self.invariant.5 in
    omega (arith, all, c.self.inside.segment_chains.ok.0, rw (← c.self.view_is) at c.requires)

pub returns : goal.returns
returns c =
    let cs = c.self.inside.chains.chains in
    let all = all_numbered cs c.self.inside.sides c.self.inside.segment_chains.items c.self.invariant.0 c.self.invariant.5 in
    let lt : c.args.s < length c.self.inside.segment_chains.items = omega (arith, all, rw (← c.self.view_is) at c.requires) in
    let found = numbered cs c.self.inside.segment_chains.items c.args.s c.index.result.now c.self.invariant.5 lt c.index.ensures in
    (found.0, rw (← c.self.view_is) (segment_of cs c.self.inside.sides c.args.s c.index.result.now found.0 c.self.invariant.0 found.1))
