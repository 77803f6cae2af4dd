-- What is asked of the faces of a sound map, by what is known of them.
use Rattle.std.proofs.Common.{Bool, IsTrue, List}
use Rattle.tl_map_county.specs.TheMap.{TheMap, MapChain}
use Rattle.tl_check_planar.specs.Planar.{IsPlanar}
use Rattle.tl_check_faces.specs.Crossings.Headings.{AreProper}
use Rattle.tl_check_faces.specs.declared.fault.FaceFault.{FaceFault}
use Rattle.tl_check_faces.specs.Facing.{FacesAgree}
use Rattle.tl_check_faces.specs.Faults.{IsTrueFaceFault}
use Rattle.tl_check_faces.specs.Truth.{AreFacesTrue}
use Rattle.tl_check_faces.proofs.Along.{by_faces}
use Rattle.tl_check_faces.proofs.OnePolygon.{one_polygon}
use Rattle.tl_check_faces.proofs.TrueSides.{true_sides}
use Rattle.tl_check_faces.proofs.FromTruth.{fault_denies}
use Rattle.tl_check_verdict.specs.declared.fault.MapFault.TheVariants.{Face}
use Rattle.tl_check_verdict.specs.Sound.{IsSound, IsSoundFor}
use Rattle.tl_check_verdict.specs.Truth.{IsTrueOfMapFor}

faces_are_true : (chains : List MapChain) → IsPlanar chains → FacesAgree chains → AreFacesTrue chains
faces_are_true chains planar agree = record {
  one_polygon = one_polygon chains (by_faces chains planar agree);
  true_sides = true_sides chains planar (by_faces chains planar agree);
}

-- faces that agree are true
pub keeps : (faces : Bool) (m : TheMap) → IsSound m → (IsTrue faces → FacesAgree m.chains) → IsSoundFor faces m
keeps faces m sound agree = record { sound = sound; facing = λ asked. faces_are_true m.chains sound.planar (agree asked) }

-- and those that disagree aren't
pub disagrees : (faces : Bool) (m : TheMap) (fault : FaceFault) → IsTrue faces → IsSound m → AreProper m.chains → IsTrueFaceFault m fault → IsTrueOfMapFor faces m (Face fault)
disagrees faces m fault asked sound proper true = (asked, (sound, (true, fault_denies m fault proper sound.planar sound.sides true)))
