-- What is told of gaps.
use Rattle.std.specs.Prelude.{ℕ, ℤ, List, All}
use Rattle.std.specs.List.{AllZip}
use Rattle.tl_geom.specs.declared.segment.Segment.{Segment}
use Rattle.tl_map_county.specs.declared.sides.Side.{Side}
use Rattle.tl_map_county.specs.TheMap.{TheMap}
use Rattle.tl_check_planar.specs.ByHeight.Heights.{widest}
use Rattle.tl_check_planar.specs.ByHeight.Neighbours.{IsNumbered}
use Rattle.tl_check_faces.specs.declared.odd.OddGap.{OddGap}
use Rattle.tl_check_faces.specs.declared.fault.NamedFace.{NamedFace}
use Rattle.tl_check_faces.specs.declared.fault.FaceFault.{FaceFault}
use Rattle.tl_check_faces.specs.Faults.{IsNamed, IsLowestMidway, IsTrueFaceFault, IsFaultBetween}

-- the face is what segment s has on this side, from its place midway above height n
pub record IsFaceOf (m : TheMap) (n : ℤ) (s : ℕ) (side : Side) (face : NamedFace) : Type 0 where
  pub segment : Segment
  pub is : IsNumbered m.chains s segment
  pub midway : IsLowestMidway widest n segment face.at
  pub named : IsNamed m is.joins.chain side face

-- the faults are of the gaps, place by place, and each is true
pub record AreFaultsOf (m : TheMap) (gaps : List OddGap) (faults : List FaceFault) : Type 0 where
  pub each : AllZip (λ gap fault. IsFaultBetween m gap.west gap.east fault) gaps faults
  pub true_ones : All (IsTrueFaceFault m) faults
