use Rattle.std.proofs.Common.{ℕ, ◌*◌, ◌∙◌, sym, ap}
use Rattle.tl_map_county.proofs.MapLemmas.{length-sided}
use Rattle.tl_map_county.proofs.map.Map.darts.Goals as goal

pub returns : goal.returns
returns c =
    let twice : ℕ → ℕ = λ n. 2 * n in
    rw (← c.self.view_is) (c.darts.ensures ∙ ap twice (sym (length-sided c.self.inside.chains.chains c.self.inside.sides c.self.invariant.0)))
