use Rattle.std.proofs.Common.{refl}
use Rattle.tl_check_planar.specs.ByHeight.Heights.{height, widest}
use Rattle.tl_check_active.proofs.Listing.{own}
use Rattle.tl_check_gaps.proofs.FaceFaults.Told.{face_read}
use Rattle.tl_check_gaps.proofs.face_faults.find.face_of.Goals as goal

pub returns : goal.returns
returns c =
    face_read c.args.map.now (height widest c.args.at) c.args.s c.segment.result
    (own c.args.map.now.chains c.args.s c.segment.result c.segment.ensures)
    c.segment_chain.result c.segment_chain.ensures.0 c.segment_chain.ensures.1 _ _ _ _ c.chain.ensures.chain _
    (record { place = c.midway-place.result; midway = c.midway-place.ensures; lowest = c.lowest-lowest.ensures.lowest }) refl c.args.side c.key_of.ensures
