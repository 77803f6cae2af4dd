use Rattle.std.proofs.Common.{◌≡◌, ◌++◌, List, ℕ, length}
use Rattle.std.specs.Prelude.{All}
use Rattle.tl_geom.specs.declared.point.Point.{Point}
use Rattle.tl_map_county.specs.TheMap.{MapChain}
use Rattle.tl_check_active.specs.Blocks.Lined.{TheLine}
use Rattle.tl_check_sweep.specs.Keeping.Exact.{EndsAt}
use Rattle.tl_check_sweep.proofs.exact.take_ended.Given as goal

-- what was taken stood behind the place, and all of it ends at the point
pub record AreTaken (chains : List MapChain) (p : Point) (old line : TheLine) (outs : List ℕ) : Type 0 where
  pub front : line.front ≡ old.front
  pub back : old.back ≡ outs ++ line.back
  pub ended : All (EndsAt chains p) outs

abbrev pub invariant-loop-s : goal.invariant-loop-s
invariant-loop-s l = AreTaken l.map.chains l.p l.fn.line l.line l.outs.items

abbrev pub decreases-loop-s : goal.decreases-loop-s
decreases-loop-s l = length l.line.back
