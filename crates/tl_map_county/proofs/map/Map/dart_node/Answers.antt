use Rattle.std.proofs.Common.{◌≡◌, ℕ, ◌*◌, ◌<◌, ◌∙◌, length, get_or, sym, arith}
use Rattle.std.proofs.lemmas.List.{get_or_default}
use Rattle.tl_map_county.specs.Keeping.Noded.{start_in}
use Rattle.tl_map_county.proofs.MapLemmas.{length-sided}
use Rattle.tl_map_county.proofs.NodeLemmas.{one_list, starts_alike, start_sided}
use Rattle.tl_map_county.proofs.map.Map.dart_node.Goals as goal

pub index-requires : goal.index-requires
index-requires c =
    let wide = length-sided c.self.inside.chains.chains c.self.inside.sides c.self.invariant.0 in
    omega (arith, wide, c.self.invariant.6.long, c.self.inside.nodes.numbers.ok.0, rw (← c.self.view_is) at c.requires)

pub returns-clause-start : goal.returns-clause-start
returns-clause-start c =
    let cs = c.self.inside.chains.chains in
    let numbered = c.self.invariant.6 in
    let wide = length-sided cs c.self.inside.sides c.self.invariant.0 in
    let lt : c.args.d < 2 * length cs = omega (arith, wide, rw (← c.self.view_is) at c.requires) in
    let alike = λ (d : ℕ). start_sided cs c.self.inside.sides d c.self.invariant.0 in
    rw (← c.self.view_is) (λ nodes are.
    let one = one_list _ numbered.points nodes (starts_alike (start_in cs) _ numbered.points alike numbered.are) are in
    let at : get_or c.self.inside.nodes.numbers.items c.args.d 0 ≡ c.index.result.now = get_or_default c.self.inside.nodes.numbers.items c.args.d 0 c.index.result.now (omega (arith, lt, numbered.long)) ∙ sym c.index.ensures in
    let told = rw (at, one) at (numbered.numbers c.args.d lt) in
    told ∙ alike c.args.d)

pub returns-clause-within : goal.returns-clause-within
returns-clause-within c =
    let cs = c.self.inside.chains.chains in
    let numbered = c.self.invariant.6 in
    let wide = length-sided cs c.self.inside.sides c.self.invariant.0 in
    let lt : c.args.d < 2 * length cs = omega (arith, wide, rw (← c.self.view_is) at c.requires) in
    let alike = λ (d : ℕ). start_sided cs c.self.inside.sides d c.self.invariant.0 in
    rw (← c.self.view_is) (λ nodes are.
    let one = one_list _ numbered.points nodes (starts_alike (start_in cs) _ numbered.points alike numbered.are) are in
    let at : get_or c.self.inside.nodes.numbers.items c.args.d 0 ≡ c.index.result.now = get_or_default c.self.inside.nodes.numbers.items c.args.d 0 c.index.result.now (omega (arith, lt, numbered.long)) ∙ sym c.index.ensures in
    rw (at, one) at (numbered.within c.args.d lt))
