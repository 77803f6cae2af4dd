use Rattle.tl_decide.proofs.OfMap.{all_agreeing}
use Rattle.tl_decide.proofs.agreeing.list_others.Goals as goal

pub returns : goal.returns
returns c =
    all_agreeing c.args.map.now c.new-faults.result.items c.push_all_cells.new.faults.items c.push_suspects.new.faults.items c.requires.planar c.new-faults.ensures.items
    c.requires.agree c.in_ok-push_all_cells.ensures c.in_ok-push_suspects.ensures
