use Rattle.tl_check_planar.specs.ByHeight.Heights.{height, widest}
use Rattle.tl_check_gaps.proofs.FaceFaults.Told.{west_face}
use Rattle.tl_check_gaps.proofs.face_faults.find.west_face.Goals as goal

pub returns : goal.returns
returns c = west_face c.args.map.now (height widest c.args.at) c.args.s c.flanks_by_height.result.near c.face_of.result c.face_of.ensures c.flanks_by_height.ensures.west
