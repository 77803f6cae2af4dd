use Rattle.std.proofs.Common.{IsTrue, rules}
use Rattle.tl_check_active.specs.Ranges.{IsInRange}
use Rattle.tl_check_active.proofs.Wide.{heights_differ}
use Rattle.tl_check_active.proofs.vertices.are_one.Goals as goal

pub returns-clause-differ : goal.returns-clause-differ
returns-clause-differ c = λ no.
    let one : IsInRange c.args.p = search rules in
    let other : IsInRange c.args.q = search rules in
    heights_differ c.args.p c.args.q one other (λ same. let yes : IsTrue c.eq.result = search rules in absurd (cc))
