use Rattle.tl_check_sides.proofs.LinkFacts.{link_first, last_within, link_more}
use Rattle.tl_check_sides.proofs.ListLemmas.{under}
use Rattle.tl_check_sides.proofs.rounds.link.Goals as goal

pub loop-place-preserved : goal.loop-place-preserved
loop-place-preserved c = link_more c.args.next.now c.args.round.now c.loop-place.next c.loop-place.place c.loop-place.last c.loop-place.invariant c.requires.darts c.requires.once c.loop-place-test.true

pub loop-place-init : goal.loop-place-init
loop-place-init c = link_first c.args.next.now c.args.round.now

pub bounds-next-last : goal.bounds-next-last
bounds-next-last c = last_within c.args.next.now c.args.round.now c.loop-place.next c.loop-place.place c.loop-place.last c.loop-place.invariant c.requires.darts c.loop-place-test.true

pub returns-clause-long : goal.returns-clause-long
returns-clause-long c = c.loop-place.invariant.long

pub returns-clause-others : goal.returns-clause-others
returns-clause-others c = c.loop-place.invariant.others

pub returns-clause-linked : goal.returns-clause-linked
returns-clause-linked c = λ k h. c.loop-place.invariant.linked k (under k _ c.loop-place.place h c.loop-place-test.false)
