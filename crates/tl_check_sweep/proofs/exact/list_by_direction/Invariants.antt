use Rattle.std.proofs.Common.{◌≡◌, ℕ, List, take}
use Rattle.std.specs.Prelude.{All}
use Rattle.tl_geom.specs.declared.point.Point.{Point}
use Rattle.tl_map_county.specs.TheMap.{MapChain}
use Rattle.tl_tree_index.specs.Hits.{times}
use Rattle.tl_check_planar.specs.ByHeight.Neighbours.{EachTwo}
use Rattle.tl_check_sweep.specs.Keeping.Exact.{BeginsAt, IsWestOfOther}
use Rattle.tl_check_sweep.proofs.exact.list_by_direction.Given as goal

-- the first ones are listed, from west to east
pub record AreListed (chains : List MapChain) (p : Point) (ins list : List ℕ) (k : ℕ) : Type 0 where
  pub begin : All (BeginsAt chains p) list
  pub west : EachTwo (IsWestOfOther chains) list
  pub same : (s : ℕ) → times s list ≡ times s (take k ins)

abbrev pub invariant-loop-k : goal.invariant-loop-k
invariant-loop-k l = AreListed l.map.chains l.p l.ins l.list.items l.k
