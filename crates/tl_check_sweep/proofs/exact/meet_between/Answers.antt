use Rattle.std.proofs.Common.{subst}
use Rattle.tl_check_planar.specs.Keeping.Apart.{one_found}
use Rattle.tl_check_planar.specs.ByHeight.Heights.{widest}
use Rattle.tl_check_planar.specs.ByHeight.Neighbours.{AreTested}
use Rattle.tl_check_sweep.proofs.exact.meet_between.Goals as goal

pub returns-in-Some-Some-clause-none : goal.returns-in-Some-Some-clause-none
returns-in-Some-Some-clause-none c = λ h s t e f.
    let chains = c.args.map.now.chains in
    let one = c.in-Some-Some.s in
    let other = c.in-Some-Some.t in
    let free = c.meet_beside.ensures.none h in
    let follow = c.requires.follow one other c.in-Some-Some.is-0 c.in-Some-Some.is-1 in
    subst (λ n. AreTested widest chains n t) (one_found one s c.args.before c.in-Some-Some.is-0 e)
    (subst (AreTested widest chains one) (one_found other t c.args.behind c.in-Some-Some.is-1 f)
    (record { west = λ u w is is'. follow.west u w is is' (free u w is is'); free = free }))
