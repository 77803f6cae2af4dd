use Rattle.std.proofs.Common.{◌<◌, zero, arith, length, refl, sym, subst}
use Rattle.std.specs.List.{All, concat}
use Rattle.tl_build_propose.specs.Keeping.Lists.{darts_in}
use Rattle.tl_build_propose.specs.Keeping.Sorting.{AreCut}
use Rattle.tl_build_propose.proofs.CutLemmas.{one_cut, some_of, no_rest, all_cut}
use Rattle.tl_build_propose.proofs.LinkLemmas.{none_linked_yet, one_linked_more, known, once}
use Rattle.tl_build_propose.proofs.walks.link_rounds.Goals as goal

pub loop-rest-init : goal.loop-rest-init
loop-rest-init c = none_linked_yet _ c.args.starts.now c.args.following.now refl c.requires.kept

pub link_round-requires-clause-some : goal.link_round-requires-clause-some
link_round-requires-clause-some c = omega (arith, c.split_at.ensures.front_len, c.first_round.ensures.some)

pub link_round-requires-clause-known : goal.link_round-requires-clause-known
link_round-requires-clause-known c =
    let so = c.loop-rest.invariant in
    subst (λ m. All (λ d. d < m) (darts_in c.split_at.result.0.now)) (sym so.long)
    (known (length c.args.following.now) c.args.starts.now c.loop-rest.rest.now c.split_at.result.0.now c.split_at.result.1.now c.loop-rest.following c.requires.all c.split_at.ensures.by_index.0 so)

pub link_round-requires-clause-once : goal.link_round-requires-clause-once
link_round-requires-clause-once c =
    once (length c.args.following.now) c.args.starts.now c.loop-rest.rest.now c.split_at.result.0.now c.split_at.result.1.now c.loop-rest.following c.requires.all c.split_at.ensures.by_index.0 c.loop-rest.invariant

pub link_round-requires-clause-paired : goal.link_round-requires-clause-paired
link_round-requires-clause-paired c = let long = c.loop-rest.invariant.long in let paired = c.requires.paired in omega (arith, long, paired)

pub link_round-requires-clause-kept : goal.link_round-requires-clause-kept
link_round-requires-clause-kept c = subst (λ m. All (λ d. d < m) c.loop-rest.following) (sym c.loop-rest.invariant.long) c.loop-rest.invariant.kept

pub loop-rest-preserved : goal.loop-rest-preserved
loop-rest-preserved c =
    let front = c.split_at.result.0.now in
    let back = c.split_at.result.1.now in
    let long = c.split_at.ensures.front_len in
    let same = c.split_at.ensures.by_index.0 in
    let some : zero < length front = omega (arith, long, c.first_round.ensures.some) in
    let d = some_of front some in
    let so = c.loop-rest.invariant in
    let made = c.link_round.ensures in
    one_linked_more (length c.args.following.now) c.args.starts.now c.loop-rest.rest.now front back c.loop-rest.following c.requires.all same so
    c.link_round.new.following made.long made.kept made.linked made.others
    (λ sorted. one_cut c.args.starts.now c.loop-rest.rest.now front back so.rounds d c.first_round.result same long some
    (λ k. c.first_round.ensures.together k d) (c.first_round.ensures.apart d) (so.cut sorted))

pub split_at-requires : goal.split_at-requires
split_at-requires c = c.first_round.ensures.within

pub returns-clause-linked : goal.returns-clause-linked
returns-clause-linked c =
    let so = c.loop-rest.invariant in
    let rest = c.loop-rest.rest.now in
    record {
      rounds = so.rounds;
      whole = all_cut rest (concat so.rounds) (darts_in c.args.starts.now) c.loop-rest-test.ensures so.whole;
      linked = so.linked;
      cut = λ sorted. subst (λ r. AreCut c.args.starts.now r so.rounds) (no_rest rest c.loop-rest-test.ensures) (so.cut sorted);
    }

pub loop-rest-smaller : goal.loop-rest-smaller
loop-rest-smaller c =
    let back = c.split_at.ensures.back_len in
    let some = c.first_round.ensures.some in
    let within = c.first_round.ensures.within in
    omega (arith, back, some, within)
