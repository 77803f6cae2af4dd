use Rattle.std.proofs.Common.{◌≡◌, ℕ, Bool, List}
use Rattle.tl_map_county.specs.TheMap.{TheMap}
use Rattle.tl_check_active.specs.Blocks.Lined.{list_of}
use Rattle.tl_check_gaps.specs.Keeping.Spotted.{AreMarks}
use Rattle.tl_check_gaps.proofs.spots.InnerPoints.mark_below.Given as goal

-- the list stays, and the marks tell of what was found
pub record AreLookedAt (map : TheMap) (list old : List ℕ) (found : List Bool) : Type 0 where
  pub stays : list ≡ old
  pub marks : AreMarks map found

abbrev pub invariant-loop-polygon : goal.invariant-loop-polygon
invariant-loop-polygon l = AreLookedAt l.map (list_of l.line) (list_of l.initial.line) l.self.marks.items

abbrev pub decreases-loop-polygon : goal.decreases-loop-polygon
decreases-loop-polygon l = l.self.points
