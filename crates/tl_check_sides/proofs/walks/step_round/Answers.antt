use Rattle.std.proofs.Common.{sym, ◌∙◌, rules}
use Rattle.std.proofs.lemmas.Bool.{false≢true}
use Rattle.tl_check_sides.proofs.ListLemmas.{last_below, before_below}
use Rattle.tl_check_sides.proofs.WalkFacts.{step_first, step_more, wrong_at, is_ring, open_at}
use Rattle.tl_check_sides.proofs.walks.step_round.Goals as goal

pub returns-then-not-follows-2-clause-none : goal.returns-then-not-follows-2-clause-none
returns-then-not-follows-2-clause-none c =
    wrong_at c.args.map.now.chains c.args.walk.now c.loop-place.place c.loop-place.invariant c.loop-place-test.true c.requires.darts
    (λ f. false≢true (sym c.if-not-follows-2.true ∙ c.follows-in-loop-place.ensures.1 f))

pub loop-place-preserved : goal.loop-place-preserved
loop-place-preserved c =
    step_more c.args.map.now.chains c.args.walk.now c.loop-place.place c.loop-place.invariant (c.follows-in-loop-place.ensures.0 c.if-not-follows-2.false)

pub returns-clause-ring : goal.returns-clause-ring
returns-clause-ring c = is_ring c.args.map.now.chains c.args.walk.now c.loop-place.place c.loop-place.invariant c.requires.some c.loop-place-test.false

pub returns-then-not-follows-clause-none : goal.returns-then-not-follows-clause-none
returns-then-not-follows-clause-none c = open_at c.args.map.now.chains c.args.walk.now c.requires.some c.requires.darts (λ f. false≢true (sym c.if-not-follows.true ∙ c.follows.ensures.1 f))

pub returns-then-not-follows-clause-ring : goal.returns-then-not-follows-clause-ring
returns-then-not-follows-clause-ring c = tt

pub returns-then-not-follows-2-clause-ring : goal.returns-then-not-follows-2-clause-ring
returns-then-not-follows-2-clause-ring c = tt

pub returns-clause-none : goal.returns-clause-none
returns-clause-none c = tt

pub follows-requires-clause-next : goal.follows-requires-clause-next
follows-requires-clause-next c = c.requires.next

pub follows-requires-clause-e : goal.follows-requires-clause-e
follows-requires-clause-e c = c.requires.darts 0 c.requires.some

pub follows-requires-in-loop-place-clause-next : goal.follows-requires-in-loop-place-clause-next
follows-requires-in-loop-place-clause-next c = c.requires.next

pub follows-requires-in-loop-place-clause-e : goal.follows-requires-in-loop-place-clause-e
follows-requires-in-loop-place-clause-e c = c.requires.darts c.loop-place.place c.loop-place-test.true

pub loop-place-init : goal.loop-place-init
loop-place-init c = step_first c.args.map.now.chains c.args.walk.now (search rules)

pub bounds-walk-walk : goal.bounds-walk-walk
bounds-walk-walk c = last_below _ c.requires.some

pub bounds-walk-0 : goal.bounds-walk-0
bounds-walk-0 c = c.requires.some

pub bounds-walk-place : goal.bounds-walk-place
bounds-walk-place c = before_below c.loop-place.place _ c.loop-place-test.true

pub bounds-walk-place-in-loop-place : goal.bounds-walk-place-in-loop-place
bounds-walk-place-in-loop-place c = c.loop-place-test.true

pub follows-requires-clause-d : goal.follows-requires-clause-d
follows-requires-clause-d c = c.requires.darts _ (last_below _ c.requires.some)

pub follows-requires-in-loop-place-clause-d : goal.follows-requires-in-loop-place-clause-d
follows-requires-in-loop-place-clause-d c = c.requires.darts _ (before_below c.loop-place.place _ c.loop-place-test.true)
