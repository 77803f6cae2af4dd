use Rattle.std.proofs.Common.{◌≡◌, ℕ, zero, false, Some, ◌<◌, [], length, map, below_more, ap, subst, sym, ◌∙◌, Vec, Global, arith, rules, inl, inr}
use Rattle.std.proofs.lemmas.Bool.{cases_lt}
use Rattle.std.proofs.lemmas.Option.{slice_get-get_or}
use Rattle.std.proofs.lemmas.List.Elements.{All-nil, All-push, All-same}
use Rattle.std.proofs.lemmas.Result.{err_from_is_err_and}
use Rattle.tl_tree_index.specs.Keeping.Marked.{mark_at}
use Rattle.tl_tree_index.proofs.Marks.{unmarked, is-marked}
use Rattle.tl_check_sides.specs.Keeping.Marked.{MarkLists}
use Rattle.tl_check_sides.proofs.MarkLemmas.{count-within}
use Rattle.tl_check_sides.proofs.Ends.{hold_once}
use Rattle.tl_build_propose.specs.Keeping.Following.{GoesBy}
use Rattle.tl_build_propose.proofs.ListLemmas.{all_in}
use Rattle.tl_build_propose.proofs.MarkFacts.{no_lists, some_taken, stay_taken, lists_more, count_more}
use Rattle.tl_build_propose.proofs.walks.trace_all.Goals as goal

pub loop-first-init : goal.loop-first-init
loop-first-init c =
    let none = c.new-walks.ensures.items in
    let taken = c.args.taken.now in
    record {
      marks = subst (λ l. MarkLists (length c.args.following.now) (map (λ (w : Vec ℕ Global). w.items) l) taken) (sym none) (no_lists _ taken c.requires.long c.requires.free);
      before = λ d h. absurd (omega (arith, h));
      some = All-same (λ (w : Vec ℕ Global). zero < length w.items) _ [] none (All-nil _);
      followed = λ one_to_one x taken. absurd (omega (arith, taken, c.requires.free.each x));
      goes = λ one_to_one. All-same (λ (w : Vec ℕ Global). GoesBy c.args.following.now w.items) _ [] none (All-nil _);
      count = ap (λ l. length (all_in l)) none ∙ sym c.requires.free.count;
    }

pub loop-first-preserved : goal.loop-first-preserved
loop-first-preserved c =
    let old = c.loop-first.taken in
    let new = c.trace_walk.new.taken in
    let walk = c.trace_walk.new.walk.items in
    let v = c.in_ok-to_vec.field-0 in
    let made : v.items ≡ walk = c.in_ok-to_vec.ensures.items_if_clones_equal (λ x y e. search rules) ∙ c.deref.ensures.value in
    let added = c.in_ok-trace_walk.ensures.taken in
    let begun = c.in_ok-trace_walk.ensures.begun in
    let free : mark_at old c.loop-first.first ≡ 0 = unmarked old c.loop-first.first c.if-taken-first.false in
    let some : 0 < length v.items = omega (arith, some_taken old new walk c.loop-first.first added free begun, ap length made) in
    record {
      marks = lists_more old new walk c.loop-first.walks.items _ v _ c.loop-first.invariant.marks added made c.in_ok-push.ensures.items;
      before = λ d h. elim (cases_lt d c.loop-first.first) [
        | inl earlier ↦ stay_taken old new walk d added (c.loop-first.invariant.before d earlier)
        | inr last ↦ ap (mark_at new) (omega (arith, h, last)) ∙ begun
      ];
      some = All-same (λ (w : Vec ℕ Global). zero < length w.items) _ _ c.in_ok-push.ensures.items (All-push (λ (w : Vec ℕ Global). zero < length w.items) _ _ c.loop-first.invariant.some some);
      followed = λ one_to_one. c.in_ok-trace_walk.ensures.followed one_to_one (c.loop-first.invariant.followed one_to_one);
      goes = λ one_to_one. All-same (λ (w : Vec ℕ Global). GoesBy c.args.following.now w.items) _ _ c.in_ok-push.ensures.items
          (All-push (λ (w : Vec ℕ Global). GoesBy c.args.following.now w.items) _ _ (c.loop-first.invariant.goes one_to_one)
          (subst (GoesBy c.args.following.now) (sym made) (c.in_ok-trace_walk.ensures.goes one_to_one (c.loop-first.invariant.followed one_to_one))));
      count = count_more old new walk c.loop-first.walks.items _ v c.loop-first.invariant.count added made c.in_ok-push.ensures.items;
    }

pub returns-clause-hold : goal.returns-clause-hold
returns-clause-hold c =
    let taken = c.loop-first.taken in
    let long = c.loop-first.invariant.marks.long in
    hold_once (length c.args.following.now) _ taken c.loop-first.invariant.marks
    (λ d h. c.loop-first.invariant.before d (omega (arith, h, long, c.loop-first-test.false)))

pub returns-clause-counted : goal.returns-clause-counted
returns-clause-counted c =
    omega (arith, c.loop-first.invariant.count, count-within c.loop-first.taken, c.loop-first.invariant.marks.long)

pub loop-first-preserved-then-taken-first : goal.loop-first-preserved-then-taken-first
loop-first-preserved-then-taken-first c =
    let now = c.loop-first.invariant in
    record {
      marks = now.marks;
      before = below_more (λ d. mark_at c.loop-first.taken d ≡ 1) c.loop-first.first now.before (is-marked c.loop-first.taken c.loop-first.first c.if-taken-first.true);
      some = now.some;
      followed = now.followed;
      goes = now.goes;
      count = now.count;
    }

pub trace_walk-requires-clause-known : goal.trace_walk-requires-clause-known
trace_walk-requires-clause-known c = c.requires.known

pub trace_walk-requires-clause-long : goal.trace_walk-requires-clause-long
trace_walk-requires-clause-long c = c.loop-first.invariant.marks.long

pub returns-clause-some : goal.returns-clause-some
returns-clause-some c = c.loop-first.invariant.some

pub returns-clause-goes : goal.returns-clause-goes
returns-clause-goes c = c.loop-first.invariant.goes

pub returns-in_err-trace_walk-clause-hold : goal.returns-in_err-trace_walk-clause-hold
returns-in_err-trace_walk-clause-hold c = let p = err_from_is_err_and c.from_residual.result c.from_residual.ensures.1 in rw p.1 tt

pub returns-in_err-trace_walk-clause-some : goal.returns-in_err-trace_walk-clause-some
returns-in_err-trace_walk-clause-some c = let p = err_from_is_err_and c.from_residual.result c.from_residual.ensures.1 in rw p.1 tt

pub returns-in_err-trace_walk-clause-counted : goal.returns-in_err-trace_walk-clause-counted
returns-in_err-trace_walk-clause-counted c = let p = err_from_is_err_and c.from_residual.result c.from_residual.ensures.1 in rw p.1 tt

pub returns-in_err-trace_walk-clause-goes : goal.returns-in_err-trace_walk-clause-goes
returns-in_err-trace_walk-clause-goes c = let p = err_from_is_err_and c.from_residual.result c.from_residual.ensures.1 in rw p.1 tt

pub returns-in_err-to_vec-clause-hold : goal.returns-in_err-to_vec-clause-hold
returns-in_err-to_vec-clause-hold c = let p = err_from_is_err_and c.from_residual-in_err-to_vec.result c.from_residual-in_err-to_vec.ensures.1 in rw p.1 tt

pub returns-in_err-to_vec-clause-some : goal.returns-in_err-to_vec-clause-some
returns-in_err-to_vec-clause-some c = let p = err_from_is_err_and c.from_residual-in_err-to_vec.result c.from_residual-in_err-to_vec.ensures.1 in rw p.1 tt

pub returns-in_err-to_vec-clause-counted : goal.returns-in_err-to_vec-clause-counted
returns-in_err-to_vec-clause-counted c = let p = err_from_is_err_and c.from_residual-in_err-to_vec.result c.from_residual-in_err-to_vec.ensures.1 in rw p.1 tt

pub returns-in_err-to_vec-clause-goes : goal.returns-in_err-to_vec-clause-goes
returns-in_err-to_vec-clause-goes c = let p = err_from_is_err_and c.from_residual-in_err-to_vec.result c.from_residual-in_err-to_vec.ensures.1 in rw p.1 tt

pub returns-in_err-push-clause-hold : goal.returns-in_err-push-clause-hold
returns-in_err-push-clause-hold c = let p = err_from_is_err_and c.from_residual-in_err-push.result c.from_residual-in_err-push.ensures.1 in rw p.1 tt

pub returns-in_err-push-clause-some : goal.returns-in_err-push-clause-some
returns-in_err-push-clause-some c = let p = err_from_is_err_and c.from_residual-in_err-push.result c.from_residual-in_err-push.ensures.1 in rw p.1 tt

pub returns-in_err-push-clause-counted : goal.returns-in_err-push-clause-counted
returns-in_err-push-clause-counted c = let p = err_from_is_err_and c.from_residual-in_err-push.result c.from_residual-in_err-push.ensures.1 in rw p.1 tt

pub returns-in_err-push-clause-goes : goal.returns-in_err-push-clause-goes
returns-in_err-push-clause-goes c = let p = err_from_is_err_and c.from_residual-in_err-push.result c.from_residual-in_err-push.ensures.1 in rw p.1 tt

pub bounds-taken-first : goal.bounds-taken-first
bounds-taken-first c =
    let lt = c.loop-first-test.true in
    let long = c.loop-first.invariant.marks.long in
    omega (arith, lt, long)

pub overflow_cast-first : goal.overflow_cast-first
overflow_cast-first c =
    let lt = c.loop-first-test.true in
    let few = c.requires.counted in
    omega (arith, lt, few)

pub trace_walk-requires-clause-first : goal.trace_walk-requires-clause-first
trace_walk-requires-clause-first c = c.loop-first-test.true

pub trace_walk-requires-clause-free : goal.trace_walk-requires-clause-free
trace_walk-requires-clause-free c =
    let lt = c.loop-first-test.true in
    let long = c.loop-first.invariant.marks.long in
    slice_get-get_or c.loop-first.taken c.loop-first.first false (omega (arith, lt, long)) ∙ ap Some c.if-taken-first.false
