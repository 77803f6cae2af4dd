use Rattle.std.proofs.Common.{◌∙◌, sym}
use Rattle.tl_map_county.proofs.MapLemmas.{length-sided}
use Rattle.tl_map_county.proofs.map.Map.chains.Goals as goal

pub returns : goal.returns
returns c = rw (← c.self.view_is) (c.len.ensures ∙ sym (length-sided c.self.inside.chains.chains c.self.inside.sides c.self.invariant.0))
