use Rattle.std.proofs.Common.{arith}
use Rattle.std.proofs.lemmas.Int.{ints}
use Rattle.tl_check_active.proofs.Joining.{first_behind}
use Rattle.tl_check_active.proofs.vertices.are_there.Goals as goal

pub returns-else-place-first-clause-elsewhere : goal.returns-else-place-first-clause-elsewhere
returns-else-place-first-clause-elsewhere c = λ no d lt same.
    let first = first_behind c.args.place c.args.events.now c.point.result d lt c.point.ensures in
    c.are_one.ensures.differ no (omega (arith, ints, first, same))
