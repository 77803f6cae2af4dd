use Rattle.std.proofs.Common.{◌≡◌, ℕ, Some, List, ◌++◌, take}
use Rattle.std.specs.Prelude.{slice_get}
use Rattle.tl_map_county.specs.TheMap.{MapChain}
use Rattle.tl_check_planar.specs.ByHeight.Heights.{widest}
use Rattle.tl_check_planar.specs.ByHeight.Neighbours.{AreTested, EachTwo}
use Rattle.tl_check_active.specs.Blocks.Lined.{TheLine, last_of}
use Rattle.tl_check_sweep.specs.Keeping.Exact.{MayFollow}
use Rattle.tl_check_sweep.proofs.exact.enter_exactly.Given as goal

-- the first ones have entered, and the next may follow
pub record HaveEntered (chains : List MapChain) (old line : TheLine) (ins : List ℕ) (k : ℕ) : Type 0 where
  pub back : line.back ≡ old.back
  pub front : line.front ≡ old.front ++ take k ins
  pub tested : EachTwo (AreTested widest chains) old.front → EachTwo (AreTested widest chains) line.front
  pub next : (s t : ℕ) → last_of line.front ≡ Some s → slice_get ins k ≡ Some t → MayFollow chains s t

abbrev pub invariant-loop-k : goal.invariant-loop-k
invariant-loop-k l = HaveEntered l.map.chains l.fn.line l.line l.ins l.k
