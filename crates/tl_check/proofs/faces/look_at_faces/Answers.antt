use Rattle.std.proofs.Common.{refl}
use Rattle.tl_check.proofs.Facing.{by_found}
use Rattle.tl_check.proofs.faces.look_at_faces.Goals as goal

pub returns : goal.returns
returns c =
    rw c.by_faces.ensures
    (by_found c.args.faces c.args.map.now c.args.report (rw c.if-not-faces.false refl) c.requires.sound c.has_proper_chains.ensures c.face_fault_of.result c.face_fault_of.ensures.agree c.face_fault_of.ensures.fault)
