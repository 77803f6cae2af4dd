-- What a search over a map finds of its chains, of its polygons' points, and of what faces what.
use Rattle.std.specs.Prelude.{◌≡◌, ◌↔◌, List, [], All}
use Rattle.tl_map_county.specs.TheMap.{TheMap, MapChain}
use Rattle.tl_check_planar.specs.Planar.{IsPlanar}
use Rattle.tl_check_planar.specs.Searching.{IsTrueMeet}
use Rattle.tl_check_planar.specs.ByHeight.Heights.{widest}
use Rattle.tl_check_inside.specs.Placed.{ArePlaced}
use Rattle.tl_check_inside.specs.Suspects.{AreSuspects}
use Rattle.tl_check_faces.specs.declared.odd.OddGap.{OddGap}
use Rattle.tl_check_faces.specs.Facing.{FacesAgree}
use Rattle.tl_check_faces.specs.Odd.{IsLowestOddGap}
use Rattle.tl_check_gaps.specs.declared.watch.Gaps.{Gaps}
use Rattle.tl_check_gaps.specs.declared.watch.Gaps.TheVariants as choice
use Rattle.tl_check_gaps.specs.Gaps.{AreAllOddGaps}
use Rattle.tl_check_sweep.specs.declared.answer.Swept.{Swept}
use Rattle.tl_check_sweep.specs.declared.answer.Swept.TheVariants.{Placed, Planar, Meet}
use Rattle.tl_check_sweep.specs.declared.answer.SweepReport.{SweepReport}

-- it says that the chains are planar
abbrev pub SaysPlanar : Swept → Type 0
SaysPlanar Placed = Unit {0}
SaysPlanar Planar = Unit {0}
SaysPlanar (Meet meet) = ⊥

-- what the answer says is so: chains are planar, and the point of each polygon lies where it has to; chains are planar; or two segments,
-- in order, conflict by the meet's point, and it names their chains
abbrev pub IsTrueAnswer : TheMap → Swept → Type 0
IsTrueAnswer m Placed = IsPlanar m.chains × ArePlaced m
IsTrueAnswer m Planar = IsPlanar m.chains
IsTrueAnswer m (Meet meet) = IsTrueMeet m.chains meet

-- what is told of gaps of planar chains, where these are asked for: each is one of a slab's list whose facing sides differ, the lowest between
-- its segments; where none is told, faces agree; and where all are asked for, there is for each such gap of each slab's list one between the
-- same two segments, of that slab or a lower one, and no two segments stand there twice
pub record AreToldGaps (chains : List MapChain) (asked : Gaps) (gaps : List OddGap) : Type 0 where
  pub odd : All (IsLowestOddGap widest chains) gaps
  pub agree : gaps ≡ [] → FacesAgree chains
  pub all : asked ≡ choice.All → AreAllOddGaps widest chains gaps

-- what is found of a map where these gaps are asked for: it says that chains are planar exactly where they are, what is answered is so, the point of each polygon but the
-- suspects lies where it has to, and where chains are planar, so is what is told of gaps
pub record IsSearched (m : TheMap) (asked : Gaps) (report : SweepReport) : Type 0 where
  pub exact : SaysPlanar report.swept ↔ IsPlanar m.chains
  pub answer : IsTrueAnswer m report.swept
  pub suspects : AreSuspects m report.suspects.items
  pub gaps : IsPlanar m.chains → AreToldGaps m.chains asked report.gaps.items
