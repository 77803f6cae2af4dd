use Rattle.tl_decide.proofs.Faced.{agreeing}
use Rattle.tl_decide.proofs.agreeing.list_agreeing.Goals as goal

pub returns : goal.returns
returns c =
    agreeing c.args.faces c.args.map.now c.in_ok-faults.faults.items c.push_faces_for.new.faults.items c.requires.rings.0 c.requires.planar c.requires.rings.1
    c.in_ok-faults.ensures c.in_ok-push_faces_for.ensures
