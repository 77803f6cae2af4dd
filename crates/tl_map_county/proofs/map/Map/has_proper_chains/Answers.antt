use Rattle.std.proofs.Common.{◌≡◌, ℕ, Some, subst}
use Rattle.std.specs.Prelude.{slice_get}
use Rattle.tl_map_county.specs.Chains.{IsProperChain}
use Rattle.tl_map_county.specs.TheMap.{TheMap, MapChain}
use Rattle.tl_map_county.proofs.MapLemmas.{sided_proper}
use Rattle.tl_map_county.proofs.map.Map.has_proper_chains.Goals as goal

pub returns : goal.returns
returns c =
    subst (λ (m : TheMap). (i : ℕ) (chain : MapChain) → slice_get m.chains i ≡ Some chain → IsProperChain chain.points) c.self.view_is
    (λ i chain. sided_proper c.self.inside.chains.chains c.self.inside.sides i chain c.self.invariant.4)
