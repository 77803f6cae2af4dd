use Rattle.std.proofs.Common.{refl}
use Rattle.tl_decide.proofs.Firsts.{found_asked, not_asked}
use Rattle.tl_decide.proofs.faces.find_face_fault.Goals as goal

pub returns-then-not-asked : goal.returns-then-not-asked
returns-then-not-asked c = not_asked c.args.asked c.args.map.now c.if-not-asked.true c.requires.sound

pub returns : goal.returns
returns c =
    rw c.fault_of.ensures
    (found_asked c.args.asked c.args.map.now (rw c.if-not-asked.false refl) c.requires.sound c.has_proper_chains.ensures c.face_fault_of.result
    c.face_fault_of.ensures.agree c.face_fault_of.ensures.fault)
