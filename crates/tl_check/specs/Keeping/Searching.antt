-- What the search for a meet may find, and what it leaves left.
use Rattle.std.specs.Prelude.{ℕ, ◌≤◌, ◌*◌, ◌-◌, ◌/◌, List}
use Rattle.tl_map_county.specs.TheMap.{TheMap}
use Rattle.tl_check_planar.specs.Planar.{IsPlanar}
use Rattle.tl_check_planar.specs.Searching.{IsTrueMeet, AreBeyond, meeting_segments}
use Rattle.tl_check_inside.specs.Suspects.{AreSuspects}
use Rattle.tl_check_faces.specs.declared.odd.OddGap.{OddGap}
use Rattle.tl_check_gaps.specs.declared.watch.Gaps.TheVariants.{First}
use Rattle.tl_check_sweep.specs.Searched.{AreToldGaps}
use Rattle.tl_check.specs.declared.search.LeftOpen.{LeftOpen}
use Rattle.tl_check.specs.declared.search.Found.{Found}
use Rattle.tl_check.specs.declared.search.Found.TheVariants as found

-- how many pairs there are of so many segments
abbrev pub pairs_of : ℕ → ℕ
pairs_of n = n * (n - 1) / 2

-- what a sweep tells of gaps where not all are asked for
abbrev pub AreFirstGaps : TheMap → List OddGap → Type 0
AreFirstGaps m gaps = AreToldGaps m.chains First gaps

-- no more than this is left open: the point of each polygon but the suspects lies where it has to, and the gaps are told
pub record IsLeftOpen (m : TheMap) (left : LeftOpen) : Type 0 where
  pub suspects : AreSuspects m left.suspects.items
  pub gaps : AreFirstGaps m left.gaps.items

-- the chains are planar, at most budget pairs of segments have rectangles that meet, and no more than this is left open
pub record IsFoundPlanar (m : TheMap) (budget : ℕ) (left : LeftOpen) : Type 0 where
  pub planar : IsPlanar m.chains
  pub within : meeting_segments m.chains ≤ budget
  pub no_more : IsLeftOpen m left

-- what a search with this budget may find
abbrev pub MayFind : TheMap → ℕ → Found → Type 0
MayFind m budget (found.Meet meet) = IsTrueMeet m.chains meet
MayFind m budget (found.Planar left) = IsFoundPlanar m budget left
MayFind m budget found.Budget = AreBeyond m.chains budget
