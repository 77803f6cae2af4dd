use Rattle.tl_check_planar.specs.ByHeight.Heights.{height, widest}
use Rattle.tl_check_gaps.proofs.FaceFaults.Told.{west_known, east_known, facing, eastward, westward, of_two, of_western, of_eastern, some_side}
use Rattle.tl_check_gaps.proofs.FaceFaults.Along.{of_lowest}
use Rattle.tl_check_gaps.proofs.face_faults.find.face_fault.Goals as goal

pub east_face-requires : goal.east_face-requires
east_face-requires c = record { known = west_known c.args.map.now c.args.gap c.requires.odd.is _ c.in-Some-Some.is-0 }

pub west_face-requires : goal.west_face-requires
west_face-requires c = record { known = east_known c.args.map.now c.args.gap c.requires.odd.is _ c.in-Some-Some.is-1 }

pub east_face-requires-in-Some-None : goal.east_face-requires-in-Some-None
east_face-requires-in-Some-None c = record { known = west_known c.args.map.now c.args.gap c.requires.odd.is _ c.in-Some-None.is-0 }

pub west_face-requires-in-None-Some : goal.west_face-requires-in-None-Some
west_face-requires-in-None-Some c = record { known = east_known c.args.map.now c.args.gap c.requires.odd.is _ c.in-None-Some.is-1 }

pub returns-in-Some-Some : goal.returns-in-Some-Some
returns-in-Some-Some c =
    let of = of_lowest c.args.map.now c.requires.planar c.has_near_points.ensures c.args.gap _ c.requires.odd
    (of_two c.args.map.now (height widest c.args.gap.at) _ _ _ _ c.in-Some-Some.is-0 c.in-Some-Some.is-1 _ _ c.east_face.ensures c.west_face.ensures) in
    record {
      true_one = record {
        in_plane =
            facing c.args.map.now c.args.gap c.requires.odd.is c.requires.planar c.has_near_points.ensures _ _ c.in-Some-Some.is-0 c.in-Some-Some.is-1 _ _
            c.east_face.ensures c.west_face.ensures;
        west = c.args.gap.west;
        east = c.args.gap.east;
        between = of;
      };
      between = of;
    }

pub returns-in-Some-None : goal.returns-in-Some-None
returns-in-Some-None c =
    let of = of_lowest c.args.map.now c.requires.planar c.has_near_points.ensures c.args.gap _ c.requires.odd
    (of_western c.args.map.now (height widest c.args.gap.at) _ _ _ c.in-Some-None.is-0 c.in-Some-None.is-1 _ c.east_face-in-Some-None.ensures) in
    record {
      true_one = record {
        in_plane =
            eastward c.args.map.now c.args.gap c.requires.odd.is c.requires.planar c.has_near_points.ensures _ c.in-Some-None.is-0 c.in-Some-None.is-1 _
            c.east_face-in-Some-None.ensures;
        west = c.args.gap.west;
        east = c.args.gap.east;
        between = of;
      };
      between = of;
    }

pub returns-in-None-Some : goal.returns-in-None-Some
returns-in-None-Some c =
    let of = of_lowest c.args.map.now c.requires.planar c.has_near_points.ensures c.args.gap _ c.requires.odd
    (of_eastern c.args.map.now (height widest c.args.gap.at) _ _ _ c.in-None-Some.is-0 c.in-None-Some.is-1 _ c.west_face-in-None-Some.ensures) in
    record {
      true_one = record {
        in_plane =
            westward c.args.map.now c.args.gap c.requires.odd.is c.requires.planar c.has_near_points.ensures _ c.in-None-Some.is-0 c.in-None-Some.is-1 _
            c.west_face-in-None-Some.ensures;
        west = c.args.gap.west;
        east = c.args.gap.east;
        between = of;
      };
      between = of;
    }

pub unreachable-requires : goal.unreachable-requires
unreachable-requires c = some_side c.args.map.now c.args.gap c.requires.odd.is c.in-None-None.is-0 c.in-None-None.is-1
