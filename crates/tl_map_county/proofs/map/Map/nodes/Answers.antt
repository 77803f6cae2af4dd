use Rattle.std.proofs.Common.{ℕ}
use Rattle.tl_map_county.specs.Keeping.Noded.{start_in}
use Rattle.tl_map_county.proofs.NodeLemmas.{starts_alike, start_sided}
use Rattle.tl_map_county.proofs.map.Map.nodes.Goals as goal

pub returns : goal.returns
returns c =
    let numbered = c.self.invariant.6 in
    let alike = λ (d : ℕ). start_sided c.self.inside.chains.chains c.self.inside.sides d c.self.invariant.0 in
    rw (← c.self.view_is) (numbered.points, starts_alike (start_in c.self.inside.chains.chains) _ numbered.points alike numbered.are, numbered.count)
