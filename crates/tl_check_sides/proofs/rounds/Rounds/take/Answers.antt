use Rattle.std.proofs.Common.{◌≡◌, ◌<◌, length, true, false, ◌+◌, slice_index_or, subst, sym, ap, refl, ◌∙◌, arith}
use Rattle.std.specs.Prelude.{slice_index}
use Rattle.std.proofs.lemmas.List.{get_or_default, with_items_is}
use Rattle.tl_check_sides.specs.Sides.{dart_count}
use Rattle.tl_check_sides.specs.Keeping.Marked.{AddMarks, IsMarkFault}
use Rattle.tl_check_sides.specs.declared.rounds.Rounds.{Rounds}
use Rattle.std.specs.Vec.{with_items, with_item}
use Rattle.tl_check_sides.specs.Lists.{and_list}
use Rattle.tl_check_sides.specs.Rounds.{HasTwoNodes, HasFall}
use Rattle.tl_check_sides.proofs.Lasting.{unknown_lasts, twice_lasts, last_lasts, repeated_lasts}
use Rattle.tl_check_sides.proofs.MarkLemmas.{count-within}
use Rattle.tl_check_sides.proofs.TakeFacts.{unknown_in, twice_in, added_below, added_once, repeated, sized_still, sized_more, taken_more}
use Rattle.tl_check_sides.proofs.rounds.Rounds.take.Goals as goal

pub returns-in-Err-Unknown-clause-fault : goal.returns-in-Err-Unknown-clause-fault
returns-in-Err-Unknown-clause-fault c = λ rounds more taken.
    unknown_lasts (dart_count c.args.map.now.chains) c.in-Err-Unknown.dart (and_list rounds c.args.round.now) more (unknown_in (dart_count c.args.map.now.chains) rounds c.args.self.now.marks.items c.args.round.now c.in-Err-Unknown.dart c.requires.sized.marks
    (rw (← c.deref_mut.ensures.value) (subst (λ f. IsMarkFault c.deref_mut.result.now c.args.round.now f) c.in-Err-Unknown.field-0-is c.in-Err-Unknown.ensures.fault)))

pub returns-in-Err-Twice-clause-fault : goal.returns-in-Err-Twice-clause-fault
returns-in-Err-Twice-clause-fault c = λ rounds more taken.
    twice_lasts c.in-Err-Twice.dart (and_list rounds c.args.round.now) more (twice_in (dart_count c.args.map.now.chains) rounds c.args.self.now.marks.items c.args.round.now c.in-Err-Twice.dart taken.marks
    (rw (← c.deref_mut.ensures.value) (subst (λ f. IsMarkFault c.deref_mut.result.now c.args.round.now f) c.in-Err-Twice.field-0-is c.in-Err-Twice.ensures.fault)))

pub returns-in-Err-Unknown-clause-sized : goal.returns-in-Err-Unknown-clause-sized
returns-in-Err-Unknown-clause-sized c =
    sized_still c.args.map.now.chains c.args.self.now c.deref_mut.result.now c.mark_darts.new.marks c.requires.sized c.deref_mut.ensures.value c.mark_darts.ensures.long c.mark_darts.ensures.count

pub returns-in-Err-Twice-clause-sized : goal.returns-in-Err-Twice-clause-sized
returns-in-Err-Twice-clause-sized c =
    sized_still c.args.map.now.chains c.args.self.now c.deref_mut.result.now c.mark_darts.new.marks c.requires.sized c.deref_mut.ensures.value c.mark_darts.ensures.long c.mark_darts.ensures.count

pub returns-then-not-has_one_node-clause-sized : goal.returns-then-not-has_one_node-clause-sized
returns-then-not-has_one_node-clause-sized c =
    sized_still c.args.map.now.chains c.args.self.now c.deref_mut.result.now c.mark_darts.new.marks c.requires.sized c.deref_mut.ensures.value c.mark_darts.ensures.long c.mark_darts.ensures.count

pub returns-then-index-clause-sized : goal.returns-then-index-clause-sized
returns-then-index-clause-sized c =
    sized_still c.args.map.now.chains c.args.self.now c.deref_mut.result.now c.mark_darts.new.marks c.requires.sized c.deref_mut.ensures.value c.mark_darts.ensures.long c.mark_darts.ensures.count

pub returns-then-not-is_rising-clause-sized : goal.returns-then-not-is_rising-clause-sized
returns-then-not-is_rising-clause-sized c =
    sized_still c.args.map.now.chains c.args.self.now c.deref_mut.result.now c.mark_darts.new.marks c.requires.sized c.deref_mut.ensures.value c.mark_darts.ensures.long c.mark_darts.ensures.count

pub has_one_node-requires-clause-darts : goal.has_one_node-requires-clause-darts
has_one_node-requires-clause-darts c =
    let added : AddMarks c.args.self.now.marks.items c.args.round.now c.mark_darts.new.marks = rw (← c.deref_mut.ensures.value) c.in-Ok.ensures.marked in
    added_below c.args.self.now.marks.items c.args.round.now c.mark_darts.new.marks (dart_count c.args.map.now.chains) added c.requires.sized.marks

pub dart_node-node-requires : goal.dart_node-node-requires
dart_node-node-requires c =
    let added : AddMarks c.args.self.now.marks.items c.args.round.now c.mark_darts.new.marks = rw (← c.deref_mut.ensures.value) c.in-Ok.ensures.marked in
    added_below c.args.self.now.marks.items c.args.round.now c.mark_darts.new.marks (dart_count c.args.map.now.chains) added c.requires.sized.marks 0 c.requires.some

pub returns-then-index-clause-fault : goal.returns-then-index-clause-fault
returns-then-index-clause-fault c = λ rounds more taken.
    let within = c.dart_node-node.ensures.within c.requires.sized.points c.requires.sized.are in
    let here : c.dart_node-node.result < length c.args.self.now.nodes.items = omega (arith, within, c.requires.sized.nodes) in
    let marked : slice_index_or c.args.self.now.nodes.items c.dart_node-node.result false ≡ true = get_or_default c.args.self.now.nodes.items c.dart_node-node.result false c.index.result.now here ∙ sym c.index.ensures ∙ c.if-index.true in
    repeated_lasts c.args.map.now.chains (and_list rounds c.args.round.now) more c.args.self.now.taken (repeated c.args.map.now.chains rounds c.args.round.now c.args.self.now.taken c.args.self.now.nodes.items taken.nodes.points c.dart_node-node.result taken.taken c.requires.some taken.nodes c.dart_node-node.ensures.start c.dart_node-node.ensures.within marked)

pub returns-then-not-has_one_node-clause-fault : goal.returns-then-not-has_one_node-clause-fault
returns-then-not-has_one_node-clause-fault c = λ rounds more taken.
    last_lasts (HasTwoNodes c.args.map.now.chains) rounds more c.args.round.now c.args.self.now.taken taken.taken (c.has_one_node.ensures.two c.if-not-has_one_node.true)

pub returns-then-not-is_rising-clause-fault : goal.returns-then-not-is_rising-clause-fault
returns-then-not-is_rising-clause-fault c = λ rounds more taken.
    last_lasts (HasFall c.args.map.now.chains) rounds more c.args.round.now c.args.self.now.taken taken.taken (c.is_rising.ensures.fall c.if-not-is_rising.true)

pub is_rising-requires-clause-darts : goal.is_rising-requires-clause-darts
is_rising-requires-clause-darts c =
    let added : AddMarks c.args.self.now.marks.items c.args.round.now c.mark_darts.new.marks = rw (← c.deref_mut.ensures.value) c.in-Ok.ensures.marked in
    added_below c.args.self.now.marks.items c.args.round.now c.mark_darts.new.marks (dart_count c.args.map.now.chains) added c.requires.sized.marks

pub link-requires-clause-darts : goal.link-requires-clause-darts
link-requires-clause-darts c = λ k h.
    let added : AddMarks c.args.self.now.marks.items c.args.round.now c.mark_darts.new.marks = rw (← c.deref_mut.ensures.value) c.in-Ok.ensures.marked in
    let below : slice_index c.args.round.now k < dart_count c.args.map.now.chains = added_below c.args.self.now.marks.items c.args.round.now c.mark_darts.new.marks (dart_count c.args.map.now.chains) added c.requires.sized.marks k h in
    rw (c.deref_mut-2.ensures.value, c.requires.sized.next) below

pub overflow_add-self : goal.overflow_add-self
overflow_add-self c =
    let added : AddMarks c.args.self.now.marks.items c.args.round.now c.mark_darts.new.marks = rw (← c.deref_mut.ensures.value) c.in-Ok.ensures.marked in
    let some = c.requires.some in
    let sized = c.requires.sized in
    omega (arith, added.count, added.long, count-within c.mark_darts.new.marks, sized.taken, sized.few, sized.marks, some)

pub returns-clause-taken : goal.returns-clause-taken
returns-clause-taken c = λ rounds taken.
    let added : AddMarks c.args.self.now.marks.items c.args.round.now c.mark_darts.new.marks = rw (← c.deref_mut.ensures.value) c.in-Ok.ensures.marked in
    let new : Rounds = record {
      next = with_items c.args.self.now.next c.link.new.next;
      marks = with_items c.args.self.now.marks c.mark_darts.new.marks;
      nodes = with_item c.args.self.now.nodes c.dart_node-node.result true;
      taken = c.args.self.now.taken + 1;
    } in
    let within = c.dart_node-node.ensures.within c.requires.sized.points c.requires.sized.are in
    let here : c.dart_node-node.result < length c.args.self.now.nodes.items = omega (arith, within, c.requires.sized.nodes) in
    let unmarked : slice_index_or c.args.self.now.nodes.items c.dart_node-node.result false ≡ false = get_or_default c.args.self.now.nodes.items c.dart_node-node.result false c.index.result.now here ∙ sym c.index.ensures ∙ c.if-index.false in
    let marks_are : new.marks.items ≡ c.mark_darts.new.marks = with_items_is c.args.self.now.marks c.mark_darts.new.marks (added.long ∙ sym c.args.self.now.marks.ok.0) in
    let next_are : new.next.items ≡ c.link.new.next = with_items_is c.args.self.now.next c.link.new.next (c.link.ensures.long ∙ ap length c.deref_mut-2.ensures.value ∙ sym c.args.self.now.next.ok.0) in
    taken_more c.args.map.now.chains rounds c.args.round.now c.args.self.now new c.dart_node-node.result taken c.requires.some (rw marks_are added) refl refl c.dart_node-node.ensures.start c.dart_node-node.ensures.within unmarked
    (c.has_one_node.ensures.one c.if-not-has_one_node.false) (c.is_rising.ensures.rising c.if-not-is_rising.false) (c.is_rising.ensures.headed c.if-not-is_rising.false)
    (rw next_are c.link.ensures.linked) (rw (next_are, ← c.deref_mut-2.ensures.value) c.link.ensures.others)

pub returns-in-Err-Unknown-clause-taken : goal.returns-in-Err-Unknown-clause-taken
returns-in-Err-Unknown-clause-taken c = tt

pub returns-in-Err-Twice-clause-taken : goal.returns-in-Err-Twice-clause-taken
returns-in-Err-Twice-clause-taken c = tt

pub returns-then-not-has_one_node-clause-taken : goal.returns-then-not-has_one_node-clause-taken
returns-then-not-has_one_node-clause-taken c = tt

pub returns-then-index-clause-taken : goal.returns-then-index-clause-taken
returns-then-index-clause-taken c = tt

pub returns-then-not-is_rising-clause-taken : goal.returns-then-not-is_rising-clause-taken
returns-then-not-is_rising-clause-taken c = tt

pub returns-clause-fault : goal.returns-clause-fault
returns-clause-fault c = tt

pub returns-clause-sized : goal.returns-clause-sized
returns-clause-sized c =
    let added : AddMarks c.args.self.now.marks.items c.args.round.now c.mark_darts.new.marks = rw (← c.deref_mut.ensures.value) c.in-Ok.ensures.marked in
    sized_more c.args.map.now.chains c.args.self.now c.link.new.next c.args.round.now c.mark_darts.new.marks c.dart_node-node.result c.requires.sized c.requires.some (c.link.ensures.long ∙ ap length c.deref_mut-2.ensures.value) added

pub has_one_node-requires-clause-some : goal.has_one_node-requires-clause-some
has_one_node-requires-clause-some c = c.requires.some

pub has_one_node-requires-clause-nodes : goal.has_one_node-requires-clause-nodes
has_one_node-requires-clause-nodes c = (c.requires.sized.points, c.requires.sized.are)

pub is_rising-requires-clause-some : goal.is_rising-requires-clause-some
is_rising-requires-clause-some c = c.requires.some

pub link-requires-clause-some : goal.link-requires-clause-some
link-requires-clause-some c = c.requires.some

pub link-requires-clause-once : goal.link-requires-clause-once
link-requires-clause-once c =
    let added : AddMarks c.args.self.now.marks.items c.args.round.now c.mark_darts.new.marks = rw (← c.deref_mut.ensures.value) c.in-Ok.ensures.marked in
    added_once c.args.self.now.marks.items c.args.round.now c.mark_darts.new.marks added
