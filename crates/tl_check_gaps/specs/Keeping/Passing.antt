-- A step of the sweep.
use Rattle.std.specs.Prelude.{◌≡◌, ℕ, Option, Some, List, ◌++◌}
use Rattle.tl_geom.specs.declared.point.Point.{Point}
use Rattle.tl_map_county.specs.TheMap.{MapChain}
use Rattle.tl_check_planar.specs.ByHeight.Heights.{height, widest}
use Rattle.tl_check_gaps.specs.declared.watch.Watch.{Watch}
use Rattle.tl_check_gaps.specs.Telling.{IsToldAlong, IsKept, StaysTrue, StaysAt}
use Rattle.tl_check_gaps.specs.Keeping.Facing.{IsCounted}
use Rattle.tl_check_gaps.specs.Keeping.Watched.{IsOpen}

-- from one list to the next, along which sides differ so often, the gaps where they do are told if they were, as gaps of the slab above the
-- point; where sides differ nowhere, or no more gaps are to be told, nothing more is
pub record HasLooked (chains : List MapChain) (p : Point) (list next : List ℕ) (gaps : Option ℕ) (old new : Watch) : Type 0 where
  pub asked : new.asked ≡ old.asked
  pub told : IsOpen old → IsToldAlong chains (height widest p) list old.told.items → IsToldAlong chains (height widest p) next new.told.items
  pub kept : IsKept old.told.items new.told.items
  pub true_ones : StaysTrue chains p next old.told.items new.told.items
  pub here : StaysAt p old.told.items new.told.items
  pub quiet : gaps ≡ Some 0 → new.told.items ≡ old.told.items
  pub closed : ¬ IsOpen old → new.told.items ≡ old.told.items

-- between two parts of a list some segments stand in the stead of others: the places where sides differ are counted, if they were, and the gaps
-- there are told, if they were
pub record IsRecounted (chains : List MapChain) (p : Point) (west outs ins east : List ℕ) (was gaps : Option ℕ) (old new : Watch) : Type 0 where
  pub counted : IsCounted chains was (west ++ (outs ++ east)) → IsCounted chains gaps ((west ++ ins) ++ east)
  pub looked : IsCounted chains gaps ((west ++ ins) ++ east) → HasLooked chains p (west ++ (outs ++ east)) ((west ++ ins) ++ east) gaps old new
