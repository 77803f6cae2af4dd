use Rattle.std.proofs.Common.{◌-◌, [], get_or, sym, subst, arith}
use Rattle.std.proofs.lemmas.Int.{ints}
use Rattle.tl_check_active.specs.Events.{AreAt, IsEvent, before}
use Rattle.tl_check_gaps.specs.Keeping.Vertices.{IsLast}
use Rattle.tl_check_sweep.proofs.Pushing.{rises_before, in_order_apart, last_level, first_level, last_before_place, last_placed, next_placed}
use Rattle.tl_check_gaps.proofs.Found.{no_event}
use Rattle.tl_check_sweep.proofs.meets.meet_before.Goals as goal

pub meet_of_events-requires-clause-one : goal.meet_of_events-requires-clause-one
meet_of_events-requires-clause-one c =
    let last = subst (IsLast c.last_of-last.result) (sym (c.at-next.ensures.events [])) c.last_of-last.ensures in
    let at = last_placed c.args.events.now c.args.k c.last_of-last.result (last_before_place c.args.events.now c.args.k c.last_of-last.result c.requires.some c.requires.within last) no_event in
    subst (IsEvent c.args.map.now.chains) at.2 (c.requires.events.each at.0 no_event at.1)

pub meet_of_events-requires-clause-other : goal.meet_of_events-requires-clause-other
meet_of_events-requires-clause-other c =
    let at = next_placed c.args.events.now c.args.k c.at-second.result.0 c.at-second.result.1 c.requires.within (c.at-second.ensures.events []) no_event in
    subst (IsEvent c.args.map.now.chains) at.1 (c.requires.events.each (before c.args.k c.args.events.now) no_event at.0)

pub meet_of_events-requires-clause-rising : goal.meet_of_events-requires-clause-rising
meet_of_events-requires-clause-rising c =
    rises_before c.args.events.now c.args.k c.last_of-last.result c.at-second.result.0 c.at-second.result.1 c.requires.some c.requires.within c.requires.rising
    (subst (IsLast c.last_of-last.result) (sym (c.at-next.ensures.events [])) c.last_of-last.ensures) (c.at-second.ensures.events []) no_event

pub returns-then-not-are_one-clause-none : goal.returns-then-not-are_one-clause-none
returns-then-not-are_one-clause-none c = λ none.
    let last = subst (IsLast c.last_of-last.result) (sym (c.at-next.ensures.events [])) c.last_of-last.ensures in
    let up = rises_before c.args.events.now c.args.k c.last_of-last.result c.at-second.result.0 c.at-second.result.1 c.requires.some c.requires.within c.requires.rising last
    (c.at-second.ensures.events []) no_event in
    let low = last_level c.point.result (get_or c.args.events.now (c.args.k - 1) []) c.last_of-last.result (c.point.ensures []) last in
    let high = first_level c.point-2.result c.at-second.result.0 c.at-second.result.1 (subst (AreAt c.point-2.result) (c.at-second.ensures.events []) (c.point-2.ensures [])) in
    record {
      last = c.last_of-last.result;
      is_last = last;
      first = c.at-second.result.0;
      second = c.at-second.result.1;
      are = c.at-second.ensures.events [];
      level = c.at-second.ensures.level;
      order = in_order_apart c.args.map.now.chains c.last_of-last.result c.at-second.result.0 up
          (λ same. c.are_one.ensures.differ c.if-not-are_one.true (omega (arith, ints, low, high, same)));
    }

pub returns-clause-none : goal.returns-clause-none
returns-clause-none c = λ none. record {
  last = c.last_of-last.result;
  is_last = subst (IsLast c.last_of-last.result) (sym (c.at-next.ensures.events [])) c.last_of-last.ensures;
  first = c.at-second.result.0;
  second = c.at-second.result.1;
  are = c.at-second.ensures.events [];
  level = c.at-second.ensures.level;
  order = c.meet_of_events.ensures.none none;
}
