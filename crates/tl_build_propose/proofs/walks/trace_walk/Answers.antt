use Rattle.std.proofs.Common.{◌≡◌, ◌<◌, true, false, [], ◌∷◌, ◌++◌, length, get_or, set, refl, ap, sym, subst, ◌∙◌, arith}
use Rattle.std.proofs.lemmas.Option.{get_or_from_slice_get}
use Rattle.std.proofs.lemmas.Result.{err_from_is_err_and}
use Rattle.tl_check_sides.specs.Keeping.Marked.{AddMarks}
use Rattle.tl_check_sides.proofs.MarkLemmas.{none-added}
use Rattle.tl_tree_index.specs.Keeping.Marked.{mark_at}
use Rattle.tl_tree_index.proofs.Times.{same_or}
use Rattle.tl_tree_index.proofs.Marks.{is-marked, unmarked}
use Rattle.tl_build_propose.proofs.MarkFacts.{add_taken, begun_more, some_taken}
use Rattle.tl_build_propose.proofs.WalkLemmas.{GoesSoFar, begin, one_more, goes_round, are_followed}
use Rattle.tl_build_propose.proofs.walks.trace_walk.Goals as goal

pub loop-taken-init : goal.loop-taken-init
loop-taken-init c =
    let taken = c.args.taken.now in
    record {
      dart = c.requires.first;
      taken = subst (λ xs. AddMarks taken xs taken) (sym c.clear.ensures.items) (none-added taken);
      goes = subst (λ xs. GoesSoFar c.args.following.now taken taken xs c.args.first c.args.first) (sym c.clear.ensures.items)
          (begin c.args.following.now taken c.args.first);
      begun = λ ne. absurd (ne refl);
    }

pub loop-taken-preserved : goal.loop-taken-preserved
loop-taken-preserved c =
    let taken = c.loop-taken.taken in
    let dart = c.loop-taken.dart in
    let within : dart < length taken = omega (arith, c.loop-taken.invariant.dart, c.loop-taken.auto.taken, c.requires.long) in
    let added : AddMarks c.args.taken.now (c.loop-taken.walk.items ++ dart ∷ []) (set taken dart true) =
    add_taken c.args.taken.now c.loop-taken.walk.items taken dart c.loop-taken.invariant.taken within c.loop-taken-test.true in
    record {
      dart = c.requires.known dart 0 c.loop-taken.invariant.dart;
      taken = subst (λ xs. AddMarks c.args.taken.now xs (set taken dart true)) (sym c.in_ok-push.ensures.items) added;
      goes = subst (λ xs. GoesSoFar c.args.following.now c.args.taken.now (set taken dart true) xs c.args.first (get_or c.args.following.now dart 0))
          (sym c.in_ok-push.ensures.items)
          (one_more c.args.following.now c.args.taken.now taken c.loop-taken.walk.items c.args.first dart c.loop-taken.invariant.goes
          c.loop-taken.invariant.dart within c.loop-taken-test.true);
      begun = λ ne. begun_more taken c.args.first dart (get_or c.args.following.now dart 0) within c.loop-taken.invariant.begun ne;
    }

pub returns-clause-begun : goal.returns-clause-begun
returns-clause-begun c =
    let taken = c.loop-taken.taken in
    let here : mark_at taken c.loop-taken.dart ≡ 1 = is-marked taken c.loop-taken.dart c.loop-taken-test.false in
    same_or c.loop-taken.dart c.args.first
    (λ e. ap (mark_at taken) (sym e) ∙ here)
    c.loop-taken.invariant.begun

pub returns-clause-goes : goal.returns-clause-goes
returns-clause-goes c = λ one_to_one followed.
    let free = unmarked c.args.taken.now c.args.first (get_or_from_slice_get c.args.taken.now c.args.first false false c.requires.free) in
    let some = some_taken c.args.taken.now c.loop-taken.taken c.loop-taken.walk.items c.args.first c.loop-taken.invariant.taken free (returns-clause-begun c) in
    goes_round c.args.following.now c.args.taken.now c.loop-taken.taken c.loop-taken.walk.items c.args.first c.loop-taken.dart c.loop-taken.invariant.goes
    some (is-marked c.loop-taken.taken c.loop-taken.dart c.loop-taken-test.false) one_to_one followed

pub returns-clause-followed : goal.returns-clause-followed
returns-clause-followed c = λ one_to_one followed.
    let free = unmarked c.args.taken.now c.args.first (get_or_from_slice_get c.args.taken.now c.args.first false false c.requires.free) in
    let some = some_taken c.args.taken.now c.loop-taken.taken c.loop-taken.walk.items c.args.first c.loop-taken.invariant.taken free (returns-clause-begun c) in
    are_followed c.args.following.now c.args.taken.now c.loop-taken.taken c.loop-taken.walk.items c.args.first c.loop-taken.dart c.loop-taken.invariant.goes
    some (is-marked c.loop-taken.taken c.loop-taken.dart c.loop-taken-test.false) one_to_one followed

pub returns-in_err-push-clause-taken : goal.returns-in_err-push-clause-taken
returns-in_err-push-clause-taken c = let p = err_from_is_err_and c.from_residual.result c.from_residual.ensures.1 in rw p.1 tt

pub returns-in_err-push-clause-begun : goal.returns-in_err-push-clause-begun
returns-in_err-push-clause-begun c = let p = err_from_is_err_and c.from_residual.result c.from_residual.ensures.1 in rw p.1 tt

pub returns-in_err-push-clause-goes : goal.returns-in_err-push-clause-goes
returns-in_err-push-clause-goes c = let p = err_from_is_err_and c.from_residual.result c.from_residual.ensures.1 in rw p.1 tt

pub returns-in_err-push-clause-followed : goal.returns-in_err-push-clause-followed
returns-in_err-push-clause-followed c = let p = err_from_is_err_and c.from_residual.result c.from_residual.ensures.1 in rw p.1 tt
