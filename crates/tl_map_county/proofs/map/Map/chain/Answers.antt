use Rattle.std.proofs.Common.{◌<◌, length, arith}
use Rattle.tl_map_county.proofs.MapLemmas.{length-sided, chain_read, proper_read}
use Rattle.tl_map_county.proofs.map.Map.chain.Goals as goal

pub tlid-requires : goal.tlid-requires
tlid-requires c =
    let wide = length-sided c.self.inside.chains.chains c.self.inside.sides c.self.invariant.0 in
    omega (arith, wide, rw (← c.self.view_is) at c.requires)

pub points-requires : goal.points-requires
points-requires c =
    let wide = length-sided c.self.inside.chains.chains c.self.inside.sides c.self.invariant.0 in
    omega (arith, wide, rw (← c.self.view_is) at c.requires)

pub get-sides-requires : goal.get-sides-requires
get-sides-requires c =
    let wide = length-sided c.self.inside.chains.chains c.self.inside.sides c.self.invariant.0 in
    omega (arith, wide, c.self.invariant.0, rw (← c.self.view_is) at c.requires)

pub returns-clause-chain : goal.returns-clause-chain
returns-clause-chain c =
    let wide = length-sided c.self.inside.chains.chains c.self.inside.sides c.self.invariant.0 in
    let lt : c.args.c < length c.self.inside.chains.chains = omega (arith, wide, rw (← c.self.view_is) at c.requires) in
    rw (← c.self.view_is) (chain_read c.self.inside.chains.chains c.self.inside.sides c.args.c c.tlid.result c.points.result.now c.get-sides.result lt c.self.invariant.0 c.tlid.ensures c.points.ensures (c.get-sides.ensures c.get-sides.result))

pub returns-clause-points : goal.returns-clause-points
returns-clause-points c =
    let wide = length-sided c.self.inside.chains.chains c.self.inside.sides c.self.invariant.0 in
    let lt : c.args.c < length c.self.inside.chains.chains = omega (arith, wide, rw (← c.self.view_is) at c.requires) in
    proper_read c.self.inside.chains.chains c.args.c c.points.result.now lt c.points.ensures c.self.invariant.4

pub returns-clause-left : goal.returns-clause-left
returns-clause-left c =
    let m = c.self.inside in
    let wide = length-sided m.chains.chains m.sides c.self.invariant.0 in
    let lt : c.args.c < length m.sides = omega (arith, wide, c.self.invariant.0, rw (← c.self.view_is) at c.requires) in
    let here = c.self.invariant.10 c.args.c c.get-sides.result lt in
    rw (← c.self.view_is, c.get-sides.ensures c.get-sides.result) here.left

pub returns-clause-right : goal.returns-clause-right
returns-clause-right c =
    let m = c.self.inside in
    let wide = length-sided m.chains.chains m.sides c.self.invariant.0 in
    let lt : c.args.c < length m.sides = omega (arith, wide, c.self.invariant.0, rw (← c.self.view_is) at c.requires) in
    let here = c.self.invariant.10 c.args.c c.get-sides.result lt in
    rw (← c.self.view_is, c.get-sides.ensures c.get-sides.result) here.right
