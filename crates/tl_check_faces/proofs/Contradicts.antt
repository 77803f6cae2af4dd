-- Faces that disagree deny that faces agree.
use Rattle.tl_map_county.specs.TheMap.{TheMap}
use Rattle.tl_check_faces.specs.Facing.{FacesAgree}
use Rattle.tl_check_faces.proofs.Neighbours.{face_contradicts, outward_contradicts}
use Rattle.tl_check_faces.specs.declared.fault.FaceFault.{FaceFault}
use Rattle.tl_check_faces.specs.declared.fault.FaceFault.TheVariants.{Facing, Outward}
use Rattle.tl_check_faces.specs.Faults.{IsTrueInPlane, IsTrueFaceFault, way_x, way_y}

denied_there : (m : TheMap) (fault : FaceFault) → IsTrueInPlane m fault → ¬ FacesAgree m.chains
denied_there m (Facing first last) true agree =
    face_contradicts m.chains true.one true.other true.disagree agree
denied_there m (Outward face way) true agree =
    outward_contradicts m.chains true.one (way_x way) (way_y way) true.disagree agree

pub denied : (m : TheMap) (fault : FaceFault) → IsTrueFaceFault m fault → ¬ FacesAgree m.chains
denied m fault true = denied_there m fault true.in_plane
