use Rattle.std.proofs.Common.{◌≡◌, false, Some, ◌<◌, length, below_more, ap, subst, ◌∙◌, arith}
use Rattle.std.proofs.lemmas.Option.{slice_get-get_or}
use Rattle.tl_tree_index.specs.Keeping.Marked.{mark_at}
use Rattle.tl_tree_index.proofs.Marks.{unmarked, is-marked}
use Rattle.tl_build_propose.specs.Keeping.Siding.{HasOneLeft}
use Rattle.tl_build_propose.specs.Keeping.Counted.{ChangesSide}
use Rattle.tl_build_propose.proofs.CountLemmas.{walk_within, none_counted, one_counted, all_counted}
use Rattle.tl_build_propose.proofs.MarkFacts.{some_taken}
use Rattle.tl_build_propose.proofs.counted.count_all.Goals as goal

pub loop-first-init : goal.loop-first-init
loop-first-init c = none_counted c.args.map.now.chains c.args.following.now c.args.taken.now c.requires.long c.requires.free

pub loop-first-preserved-then-taken-first : goal.loop-first-preserved-then-taken-first
loop-first-preserved-then-taken-first c =
    let now = c.loop-first.invariant in
    record {
      walks = now.walks;
      many = now.many;
      few = omega (arith, now.few);
      marks = now.marks;
      before = below_more (λ d. mark_at c.loop-first.taken d ≡ 1) c.loop-first.first now.before (is-marked c.loop-first.taken c.loop-first.first c.if-taken-first.true);
      some = now.some;
      followed = now.followed;
      goes = now.goes;
      one = now.one;
    }

pub loop-first-preserved : goal.loop-first-preserved
loop-first-preserved c =
    let walk = c.trace_walk.new.walk.items in
    let one : HasOneLeft c.args.map.now.chains walk = subst (HasOneLeft c.args.map.now.chains) c.deref.ensures.value (c.has_one_left.ensures.one c.if-not-has_one_left.false) in
    one_counted c.args.map.now.chains c.args.following.now c.loop-first.taken c.trace_walk.new.taken walk c.loop-first.first c.loop-first.count c.loop-first.invariant
    c.in_ok-trace_walk.ensures.taken (unmarked c.loop-first.taken c.loop-first.first c.if-taken-first.false) c.in_ok-trace_walk.ensures.begun
    c.in_ok-trace_walk.ensures.goes c.in_ok-trace_walk.ensures.followed one

pub returns : goal.returns
returns c = let done = c.loop-first-test.false in all_counted c.args.map.now.chains c.args.following.now c.loop-first.taken c.loop-first.first c.loop-first.count c.loop-first.invariant (omega (arith, done))

pub bounds-taken-first : goal.bounds-taken-first
bounds-taken-first c =
    let lt = c.loop-first-test.true in
    let long = c.loop-first.invariant.marks.long in
    omega (arith, lt, long)

pub overflow_cast-first : goal.overflow_cast-first
overflow_cast-first c =
    let lt = c.loop-first-test.true in
    let few = c.requires.counted in
    omega (arith, lt, few)

pub trace_walk-requires-clause-known : goal.trace_walk-requires-clause-known
trace_walk-requires-clause-known c = c.requires.known

pub trace_walk-requires-clause-long : goal.trace_walk-requires-clause-long
trace_walk-requires-clause-long c = c.loop-first.invariant.marks.long

pub trace_walk-requires-clause-first : goal.trace_walk-requires-clause-first
trace_walk-requires-clause-first c = c.loop-first-test.true

pub trace_walk-requires-clause-free : goal.trace_walk-requires-clause-free
trace_walk-requires-clause-free c =
    let lt = c.loop-first-test.true in
    let long = c.loop-first.invariant.marks.long in
    slice_get-get_or c.loop-first.taken c.loop-first.first false (omega (arith, lt, long)) ∙ ap Some c.if-taken-first.false

pub has_one_left-requires-clause-some : goal.has_one_left-requires-clause-some
has_one_left-requires-clause-some c =
    let free = unmarked c.loop-first.taken c.loop-first.first c.if-taken-first.false in
    let some : 0 < length c.trace_walk.new.walk.items = some_taken c.loop-first.taken c.trace_walk.new.taken c.trace_walk.new.walk.items c.loop-first.first c.in_ok-trace_walk.ensures.taken free c.in_ok-trace_walk.ensures.begun in
    omega (arith, some, ap length c.deref.ensures.value)

pub has_one_left-requires-clause-darts : goal.has_one_left-requires-clause-darts
has_one_left-requires-clause-darts c = rw c.deref.ensures.value (λ k h.
    let within = walk_within c.loop-first.taken c.trace_walk.new.taken c.trace_walk.new.walk.items c.in_ok-trace_walk.ensures.taken k h in
    omega (arith, within, c.in_ok-trace_walk.ensures.taken.long, c.loop-first.invariant.marks.long, c.requires.darts))

pub returns-then-not-has_one_left : goal.returns-then-not-has_one_left
returns-then-not-has_one_left c = record {
  walk = c.trace_walk.new.walk.items;
  darts = λ k h.
      let within = walk_within c.loop-first.taken c.trace_walk.new.taken c.trace_walk.new.walk.items c.in_ok-trace_walk.ensures.taken k h in
      omega (arith, within, c.in_ok-trace_walk.ensures.taken.long, c.loop-first.invariant.marks.long, c.requires.darts);
  goes = λ one_to_one. c.in_ok-trace_walk.ensures.goes one_to_one (c.loop-first.invariant.followed one_to_one);
  changes = subst (ChangesSide c.args.map.now.chains) c.deref.ensures.value (c.has_one_left.ensures.two c.if-not-has_one_left.true);
}
