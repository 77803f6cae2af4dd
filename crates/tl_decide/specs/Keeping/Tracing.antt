-- Walks that are traced, of which only the number may be kept.
use Rattle.std.specs.Prelude.{Bool, IsTrue, map}
use Rattle.tl_map_county.specs.TheMap.{TheMap}
use Rattle.tl_decide.specs.declared.traced.Traced.{Traced}
use Rattle.tl_decide.specs.Deciding.{AreRings, HasRings}

-- sides agree, so many rings are counted, and where walks are asked for these are they
pub record IsTraced (walks : Bool) (m : TheMap) (traced : Traced) : Type 0 where
  pub rings : HasRings m traced.rings
  pub kept : IsTrue walks → AreRings m traced.rings (map (λ w. w.items) traced.walks.items)
