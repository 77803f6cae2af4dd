use Rattle.std.proofs.Common.{ℕ, ◌<◌, length, get_or}
use Rattle.tl_check_inside.specs.declared.strips.Site.{Site}
use Rattle.tl_check_inside.specs.Keeping.Strips.{IsPlacedSite}
use Rattle.tl_check_inside.specs.Keeping.Tallies.{AreClear}
use Rattle.tl_check_inside.proofs.misplaced.find_beside.Given as goal

-- nothing is wrong with the points so far, and nothing is counted
abbrev pub invariant-loop-k : goal.invariant-loop-k
invariant-loop-k g l = record {
  clear : AreClear (length l.map.polygons) l.near l.far;
  placed : (j : ℕ) (d : Site) → j < l.k → IsPlacedSite l.map (get_or l.sites j d);
}
