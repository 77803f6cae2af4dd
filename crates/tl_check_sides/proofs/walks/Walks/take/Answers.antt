use Rattle.std.proofs.Common.{◌≡◌, ◌+◌, subst, sym, refl, ◌∙◌, arith}
use Rattle.std.specs.Vec.{with_items}
use Rattle.std.proofs.lemmas.List.{with_items_is}
use Rattle.tl_check_sides.specs.declared.walks.Walks.{Walks}
use Rattle.tl_check_sides.specs.Sides.{dart_count}
use Rattle.tl_check_sides.specs.Keeping.Marked.{AddMarks, IsMarkFault}
use Rattle.tl_check_sides.specs.Lists.{and_list}
use Rattle.tl_check_sides.specs.Walks.{HasWrongStep, IsOpen}
use Rattle.tl_check_sides.specs.Keeping.Walked.{IsNoRing}
use Rattle.tl_check_sides.proofs.Lasting.{unknown_lasts, twice_lasts, last_lasts}
use Rattle.tl_check_sides.proofs.MarkLemmas.{count-within}
use Rattle.tl_check_sides.proofs.TakeFacts.{unknown_in, twice_in, added_below}
use Rattle.tl_check_sides.proofs.WalkFacts.{ready_still, ready_more, walked_more}
use Rattle.tl_check_sides.proofs.walks.Walks.take.Goals as goal

pub returns-in-Err-Unknown-clause-fault : goal.returns-in-Err-Unknown-clause-fault
returns-in-Err-Unknown-clause-fault c = λ walks more taken.
    unknown_lasts (dart_count c.args.map.now.chains) c.in-Err-Unknown.dart (and_list walks c.args.walk.now) more (unknown_in (dart_count c.args.map.now.chains) walks c.args.self.now.marks.items c.args.walk.now c.in-Err-Unknown.dart c.requires.ready.marks
    (rw (← c.deref_mut.ensures.value) (subst (λ f. IsMarkFault c.deref_mut.result.now c.args.walk.now f) c.in-Err-Unknown.field-0-is c.in-Err-Unknown.ensures.fault)))

pub returns-in-Err-Twice-clause-fault : goal.returns-in-Err-Twice-clause-fault
returns-in-Err-Twice-clause-fault c = λ walks more taken.
    twice_lasts c.in-Err-Twice.dart (and_list walks c.args.walk.now) more (twice_in (dart_count c.args.map.now.chains) walks c.args.self.now.marks.items c.args.walk.now c.in-Err-Twice.dart taken.marks
    (rw (← c.deref_mut.ensures.value) (subst (λ f. IsMarkFault c.deref_mut.result.now c.args.walk.now f) c.in-Err-Twice.field-0-is c.in-Err-Twice.ensures.fault)))

pub returns-in-Err-WrongStep-clause-fault : goal.returns-in-Err-WrongStep-clause-fault
returns-in-Err-WrongStep-clause-fault c = λ walks more taken.
    last_lasts (HasWrongStep c.args.map.now.chains) walks more c.args.walk.now c.args.self.now.taken taken.taken
    (subst (λ r. IsNoRing c.args.map.now.chains c.args.walk.now r) c.in-Err-WrongStep.field-0-is c.in-Err-WrongStep.ensures.none)

pub returns-in-Err-NotClosed-clause-fault : goal.returns-in-Err-NotClosed-clause-fault
returns-in-Err-NotClosed-clause-fault c = λ walks more taken.
    last_lasts (IsOpen c.args.map.now.chains) walks more c.args.walk.now c.args.self.now.taken taken.taken
    (subst (λ r. IsNoRing c.args.map.now.chains c.args.walk.now r) c.in-Err-NotClosed.field-0-is c.in-Err-NotClosed.ensures.none)

pub returns-in-Err-Unknown-clause-ready : goal.returns-in-Err-Unknown-clause-ready
returns-in-Err-Unknown-clause-ready c =
    ready_still c.args.map.now.chains c.args.self.now c.deref_mut.result.now c.mark_darts.new.marks c.requires.ready c.deref_mut.ensures.value c.mark_darts.ensures.long c.mark_darts.ensures.count

pub returns-in-Err-Twice-clause-ready : goal.returns-in-Err-Twice-clause-ready
returns-in-Err-Twice-clause-ready c =
    ready_still c.args.map.now.chains c.args.self.now c.deref_mut.result.now c.mark_darts.new.marks c.requires.ready c.deref_mut.ensures.value c.mark_darts.ensures.long c.mark_darts.ensures.count

pub returns-in-Err-WrongStep-clause-ready : goal.returns-in-Err-WrongStep-clause-ready
returns-in-Err-WrongStep-clause-ready c =
    ready_still c.args.map.now.chains c.args.self.now c.deref_mut.result.now c.mark_darts.new.marks c.requires.ready c.deref_mut.ensures.value c.mark_darts.ensures.long c.mark_darts.ensures.count

pub returns-in-Err-NotClosed-clause-ready : goal.returns-in-Err-NotClosed-clause-ready
returns-in-Err-NotClosed-clause-ready c =
    ready_still c.args.map.now.chains c.args.self.now c.deref_mut.result.now c.mark_darts.new.marks c.requires.ready c.deref_mut.ensures.value c.mark_darts.ensures.long c.mark_darts.ensures.count

pub returns-clause-ready : goal.returns-clause-ready
returns-clause-ready c =
    let added : AddMarks c.args.self.now.marks.items c.args.walk.now c.mark_darts.new.marks = rw (← c.deref_mut.ensures.value) c.in-Ok.ensures.marked in
    ready_more c.args.map.now.chains c.args.self.now c.args.walk.now c.mark_darts.new.marks c.requires.ready c.requires.some added

pub step_round-requires-clause-darts : goal.step_round-requires-clause-darts
step_round-requires-clause-darts c =
    let added : AddMarks c.args.self.now.marks.items c.args.walk.now c.mark_darts.new.marks = rw (← c.deref_mut.ensures.value) c.in-Ok.ensures.marked in
    added_below c.args.self.now.marks.items c.args.walk.now c.mark_darts.new.marks (dart_count c.args.map.now.chains) added c.requires.ready.marks

pub overflow_add-self : goal.overflow_add-self
overflow_add-self c =
    let added : AddMarks c.args.self.now.marks.items c.args.walk.now c.mark_darts.new.marks = rw (← c.deref_mut.ensures.value) c.in-Ok.ensures.marked in
    let some = c.requires.some in
    let ready = c.requires.ready in
    omega (arith, added.count, added.long, count-within c.mark_darts.new.marks, ready.taken, ready.few, ready.marks, some)

pub returns-clause-taken : goal.returns-clause-taken
returns-clause-taken c = λ walks taken.
    let added : AddMarks c.args.self.now.marks.items c.args.walk.now c.mark_darts.new.marks = rw (← c.deref_mut.ensures.value) c.in-Ok.ensures.marked in
    let new : Walks = record {
      next = c.args.self.now.next;
      marks = with_items c.args.self.now.marks c.mark_darts.new.marks;
      taken = c.args.self.now.taken + 1;
    } in
    let marks_are : new.marks.items ≡ c.mark_darts.new.marks = with_items_is c.args.self.now.marks c.mark_darts.new.marks (added.long ∙ sym c.args.self.now.marks.ok.0) in
    walked_more c.args.map.now.chains walks c.args.walk.now c.args.self.now new taken (rw marks_are added) refl c.in-Ok-step_round.ensures.ring

pub returns-in-Err-Unknown-clause-taken : goal.returns-in-Err-Unknown-clause-taken
returns-in-Err-Unknown-clause-taken c = tt

pub returns-in-Err-Twice-clause-taken : goal.returns-in-Err-Twice-clause-taken
returns-in-Err-Twice-clause-taken c = tt

pub returns-in-Err-WrongStep-clause-taken : goal.returns-in-Err-WrongStep-clause-taken
returns-in-Err-WrongStep-clause-taken c = tt

pub returns-in-Err-NotClosed-clause-taken : goal.returns-in-Err-NotClosed-clause-taken
returns-in-Err-NotClosed-clause-taken c = tt

pub returns-clause-fault : goal.returns-clause-fault
returns-clause-fault c = tt

pub step_round-requires-clause-next : goal.step_round-requires-clause-next
step_round-requires-clause-next c = c.requires.ready.next

pub step_round-requires-clause-some : goal.step_round-requires-clause-some
step_round-requires-clause-some c = c.requires.some
