-- What becomes of the list of active segments at a vertex.
use Rattle.std.specs.Prelude.{◌≡◌, ℕ, List, ◌++◌, slice_get}
use Rattle.tl_map_county.specs.TheMap.{MapChain}
use Rattle.tl_tree_index.specs.Hits.{times}
use Rattle.tl_check_planar.specs.ByHeight.Heights.{widest}
use Rattle.tl_check_planar.specs.ByHeight.Neighbours.{AreTested, EachTwo}
use Rattle.tl_check_active.specs.Blocks.Lined.{TheLine, list_of, last_of}
use Rattle.tl_check_active.specs.declared.passing.BothSides.{BothSides}

-- segments stand in the stead of others, and where neighbours were tested, they are
pub record IsShifted (chains : List MapChain) (outs ins : List ℕ) (old new : TheLine) : Type 0 where
  pub front : new.front ≡ old.front ++ ins
  pub back : old.back ≡ outs ++ new.back
  pub tested : EachTwo (AreTested widest chains) old.front → EachTwo (AreTested widest chains) new.back → EachTwo (AreTested widest chains) (list_of new)

-- of a list some segments left and others entered in their stead, before the place, where these stand beside them, and the neighbours are tested
-- if they were
pub record HasPassed (chains : List MapChain) (list : List ℕ) (line : TheLine) (outs outs_sorted ins ins_sorted : List ℕ) (both : BothSides) : Type 0 where
  pub west : List ℕ
  pub was : list ≡ west ++ (outs_sorted ++ line.back)
  pub is : line.front ≡ west ++ ins_sorted
  pub same_outs : (s : ℕ) → times s outs_sorted ≡ times s outs
  pub same_ins : (s : ℕ) → times s ins_sorted ≡ times s ins
  pub tested : EachTwo (AreTested widest chains) list → EachTwo (AreTested widest chains) (list_of line)
  pub west_is : both.west ≡ last_of west
  pub east_is : both.east ≡ slice_get line.back 0
