use Rattle.std.proofs.Common.{◌≡◌, take, drop, ◌+◌, ◌-◌, ◌++◌, ◌<◌, pos, ◌+ℤ◌, [], length, get_or, count_by, length-append, sym, ap, ◌∙◌, arith}
use Rattle.std.proofs.lemmas.List.Elements.{All-nil, All-append}
use Rattle.std.proofs.lemmas.Result.{err_from_is_err_and}
use Rattle.tl_tree_index.specs.Hits.{times}
use Rattle.tl_check_active.specs.declared.events.Event.{Event}
use Rattle.tl_check_planar.specs.ByHeight.Heights.{height, widest}
use Rattle.tl_check_active.specs.Events.{AreAt, begins_at, ends_at, joined, between}
use Rattle.tl_check_active.proofs.Gathering.{counted_both}
use Rattle.tl_check_active.proofs.Joining.{further}
use Rattle.tl_check_active.proofs.vertices.gather.Goals as goal

pub loop-to-init : goal.loop-to-init
loop-to-init c =
    let none : between c.args.from c.args.from c.args.events.now ≡ [] = ap (λ n. joined (take n (drop c.args.from c.args.events.now))) (let same : c.args.from - c.args.from ≡ 0 = omega arith in same) in
    record {
      past = omega arith;
      within = omega (arith, c.requires);
      some = λ lt. absurd (omega (arith, lt));
      level = rw none (All-nil (λ (e : Event). e.height ≡ height widest c.point-p.result +ℤ pos 2147483647));
      off = λ s. ap (times s) c.clear.ensures.items ∙ ap (count_by (ends_at s)) (sym none);
      on = λ s. ap (times s) c.clear-2.ensures.items ∙ ap (count_by (begins_at s)) (sym none);
    }

pub loop-to-preserved : goal.loop-to-preserved
loop-to-preserved c =
    let events = c.args.events.now in
    let now = c.loop-to.invariant in
    let lt : c.loop-to.to < length c.args.events.now = omega (arith, c.loop-to-test.true, c.len-count.ensures) in
    let more : between c.args.from (c.loop-to.to + 1) c.args.events.now ≡ between c.args.from c.loop-to.to c.args.events.now ++ get_or c.args.events.now c.loop-to.to [] =
    further events c.args.from c.loop-to.to [] now.past lt in
    let at : AreAt c.point-p.result (get_or c.args.events.now c.loop-to.to []) = c.are_there.ensures.there c.if-are_there.true [] in
    record {
      past = let past = now.past in omega (arith, past);
      within = omega (arith, lt);
      some = λ later. let some = at.some in let long = ap length more in omega (arith, some, long, length-append (between c.args.from c.loop-to.to c.args.events.now) (get_or c.args.events.now c.loop-to.to []));
      level = rw more (All-append (λ (e : Event). e.height ≡ height widest c.point-p.result +ℤ pos 2147483647) (between c.args.from c.loop-to.to c.args.events.now) (get_or c.args.events.now c.loop-to.to []) now.level at.level);
      off = λ s. c.in_ok-note_all.ensures.outs s [] ∙ ap (λ n. n + count_by (ends_at s) (get_or c.args.events.now c.loop-to.to [])) (now.off s) ∙ sym (counted_both (ends_at s) (between c.args.from c.loop-to.to c.args.events.now) (get_or c.args.events.now c.loop-to.to [])) ∙ ap (count_by (ends_at s)) (sym more);
      on = λ s. c.in_ok-note_all.ensures.ins s [] ∙ ap (λ n. n + count_by (begins_at s) (get_or c.args.events.now c.loop-to.to [])) (now.on s) ∙ sym (counted_both (begins_at s) (between c.args.from c.loop-to.to c.args.events.now) (get_or c.args.events.now c.loop-to.to [])) ∙ ap (count_by (begins_at s)) (sym more);
    }

pub are_there-requires-clause-first : goal.are_there-requires-clause-first
are_there-requires-clause-first c = c.point-p.ensures

pub returns-else-are_there : goal.returns-else-are_there
returns-else-are_there c =
    let now = c.loop-to.invariant in
    let past : c.args.from < c.loop-to.to = let le = now.past in let other = c.are_there.ensures.other c.if-are_there.false in omega (arith, le, other) in
    record {
      past = past;
      within = now.within;
      some = now.some past;
      height_is = height widest c.point-p.result +ℤ pos 2147483647;
      level = now.level;
      beyond = c.are_there.ensures.elsewhere c.if-are_there.false;
      off = now.off;
      on = now.on;
    }

pub returns-after-loop-to : goal.returns-after-loop-to
returns-after-loop-to c =
    let now = c.loop-to.invariant in
    let past : c.args.from < c.loop-to.to = omega (arith, c.loop-to-test.false, c.len-count.ensures, c.requires) in
    record {
      past = past;
      within = now.within;
      some = now.some past;
      height_is = height widest c.point-p.result +ℤ pos 2147483647;
      level = now.level;
      beyond = λ d lt. absurd (omega (arith, lt, c.loop-to-test.false, c.len-count.ensures));
      off = now.off;
      on = now.on;
    }

pub returns-in_err-note_all : goal.returns-in_err-note_all
returns-in_err-note_all c = let p = err_from_is_err_and c.from_residual.result c.from_residual.ensures.1 in rw p.1 tt
