use Rattle.std.proofs.Common.{◌<◌, ◌/◌, length, refl, arith}
use Rattle.std.proofs.lemmas.Bool.{eq-eqb, ne_eqb}
use Rattle.tl_map_county.proofs.MapLemmas.{length-sided, sides_read}
use Rattle.tl_map_county.proofs.map.Map.dart_cell.Goals as goal

pub get-sides-requires : goal.get-sides-requires
get-sides-requires c =
    let wide = length-sided c.self.inside.chains.chains c.self.inside.sides c.self.invariant.0 in
    omega (arith, wide, c.self.invariant.0, rw (← c.self.view_is) at c.requires)

pub returns-then-d-eq0 : goal.returns-then-d-eq0
returns-then-d-eq0 c =
    let wide = length-sided c.self.inside.chains.chains c.self.inside.sides c.self.invariant.0 in
    let lt : c.args.d / 2 < length c.self.inside.chains.chains = omega (arith, wide, rw (← c.self.view_is) at c.requires) in
    rw (← c.self.view_is) (rw (sides_read c.self.inside.chains.chains c.self.inside.sides (c.args.d / 2) c.get-sides.result lt c.self.invariant.0 (c.get-sides.ensures c.get-sides.result), eq-eqb _ _ c.if-d-eq0.true) refl)

pub returns-else-d-eq0 : goal.returns-else-d-eq0
returns-else-d-eq0 c =
    let wide = length-sided c.self.inside.chains.chains c.self.inside.sides c.self.invariant.0 in
    let lt : c.args.d / 2 < length c.self.inside.chains.chains = omega (arith, wide, rw (← c.self.view_is) at c.requires) in
    rw (← c.self.view_is) (rw (sides_read c.self.inside.chains.chains c.self.inside.sides (c.args.d / 2) c.get-sides.result lt c.self.invariant.0 (c.get-sides.ensures c.get-sides.result), ne_eqb _ _ c.if-d-eq0.false) refl)
