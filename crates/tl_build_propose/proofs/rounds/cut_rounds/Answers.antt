use Rattle.std.proofs.Common.{[], refl, subst, zero, ◌<◌, length, ap, arith, ℕ, Vec, Global}
use Rattle.std.proofs.lemmas.List.{length-map}
use Rattle.std.proofs.lemmas.List.Elements.{All-nil, All-push, All-same}
use Rattle.std.proofs.lemmas.Result.{err_from_is_err_and}
use Rattle.tl_check_sides.specs.declared.headed.HeadedDart.{HeadedDart}
use Rattle.tl_build_propose.specs.Keeping.Lists.{lists_in}
use Rattle.tl_build_propose.specs.Keeping.Sorting.{AreCut}
use Rattle.tl_build_propose.proofs.ListLemmas.{cut_more}
use Rattle.tl_build_propose.proofs.CutLemmas.{none_cut, one_cut, some_of, more_rounds, no_rest, all_cut}
use Rattle.tl_build_propose.proofs.rounds.cut_rounds.Goals as goal
use Rattle.tl_build_propose.proofs.rounds.cut_rounds.Goals.{In_ok-push}

pub loop-rest-init : goal.loop-rest-init
loop-rest-init c = record {
  cut = rw c.in_ok-rounds.ensures.items refl;
  some = All-same (λ (r : Vec ℕ Global). zero < length r.items) _ [] c.in_ok-rounds.ensures.items (All-nil _);
  grouped = λ sorted. rw c.in_ok-rounds.ensures.items (none_cut c.args.starts.now sorted);
}

-- the round that is cut off is a group of the rest
next_cut : (c : In_ok-push) → AreCut c.args.starts.now c.loop-rest.rest.now (lists_in c.loop-rest.rounds.items)
    → AreCut c.args.starts.now c.split_at.result.1.now (lists_in c.push.new.self.items)
next_cut c cut =
    let front = c.split_at.result.0.now in
    let back = c.split_at.result.1.now in
    let long = c.split_at.ensures.front_len in
    let same = c.split_at.ensures.by_index.0 in
    let some : zero < length front = omega (arith, long, c.first_round.ensures.some) in
    let d = some_of front some in
    subst (AreCut c.args.starts.now back) (more_rounds c.loop-rest.rounds.items _ c.in_ok-darts_of.field-0 front c.in_ok-push.ensures.items c.in_ok-darts_of.ensures)
    (one_cut c.args.starts.now c.loop-rest.rest.now front back (lists_in c.loop-rest.rounds.items) d c.first_round.result same long some
    (λ k. c.first_round.ensures.together k d) (c.first_round.ensures.apart d)
    cut)

pub loop-rest-preserved : goal.loop-rest-preserved
loop-rest-preserved c =
    let one : zero < length c.in_ok-darts_of.field-0.items =
    omega (arith, ap length c.in_ok-darts_of.ensures, length-map c.split_at.result.0.now (λ (s : HeadedDart). s.dart), c.split_at.ensures.front_len, c.first_round.ensures.some) in
    record {
      cut = cut_more (λ (s : HeadedDart). s.dart) c.loop-rest.rounds.items _ c.in_ok-darts_of.field-0 c.loop-rest.rest.now c.split_at.result.0.now c.split_at.result.1.now c.args.starts.now
          c.split_at.ensures.by_index.0 c.in_ok-darts_of.ensures c.in_ok-push.ensures.items c.loop-rest.invariant.cut;
      some = All-same (λ (r : Vec ℕ Global). zero < length r.items) _ _ c.in_ok-push.ensures.items
          (All-push (λ (r : Vec ℕ Global). zero < length r.items) _ _ c.loop-rest.invariant.some one);
      grouped = λ sorted. next_cut c (c.loop-rest.invariant.grouped sorted);
    }

pub split_at-requires : goal.split_at-requires
split_at-requires c = c.first_round.ensures.within

pub returns-clause-some : goal.returns-clause-some
returns-clause-some c = c.loop-rest.invariant.some

pub returns-in_err-rounds-clause-whole : goal.returns-in_err-rounds-clause-whole
returns-in_err-rounds-clause-whole c = let p = err_from_is_err_and c.from_residual.result c.from_residual.ensures.1 in rw p.1 tt

pub returns-in_err-rounds-clause-some : goal.returns-in_err-rounds-clause-some
returns-in_err-rounds-clause-some c = let p = err_from_is_err_and c.from_residual.result c.from_residual.ensures.1 in rw p.1 tt

pub returns-in_err-rounds-clause-cut : goal.returns-in_err-rounds-clause-cut
returns-in_err-rounds-clause-cut c = let p = err_from_is_err_and c.from_residual.result c.from_residual.ensures.1 in rw p.1 tt

pub returns-in_err-darts_of-clause-whole : goal.returns-in_err-darts_of-clause-whole
returns-in_err-darts_of-clause-whole c = let p = err_from_is_err_and c.from_residual-in_err-darts_of.result c.from_residual-in_err-darts_of.ensures.1 in rw p.1 tt

pub returns-in_err-darts_of-clause-some : goal.returns-in_err-darts_of-clause-some
returns-in_err-darts_of-clause-some c = let p = err_from_is_err_and c.from_residual-in_err-darts_of.result c.from_residual-in_err-darts_of.ensures.1 in rw p.1 tt

pub returns-in_err-darts_of-clause-cut : goal.returns-in_err-darts_of-clause-cut
returns-in_err-darts_of-clause-cut c = let p = err_from_is_err_and c.from_residual-in_err-darts_of.result c.from_residual-in_err-darts_of.ensures.1 in rw p.1 tt

pub returns-in_err-push-clause-whole : goal.returns-in_err-push-clause-whole
returns-in_err-push-clause-whole c = let p = err_from_is_err_and c.from_residual-in_err-push.result c.from_residual-in_err-push.ensures.1 in rw p.1 tt

pub returns-in_err-push-clause-some : goal.returns-in_err-push-clause-some
returns-in_err-push-clause-some c = let p = err_from_is_err_and c.from_residual-in_err-push.result c.from_residual-in_err-push.ensures.1 in rw p.1 tt

pub returns-in_err-push-clause-cut : goal.returns-in_err-push-clause-cut
returns-in_err-push-clause-cut c = let p = err_from_is_err_and c.from_residual-in_err-push.result c.from_residual-in_err-push.ensures.1 in rw p.1 tt

pub returns-clause-whole : goal.returns-clause-whole
returns-clause-whole c = all_cut c.loop-rest.rest.now _ _ c.loop-rest-test.ensures c.loop-rest.invariant.cut

pub returns-clause-cut : goal.returns-clause-cut
returns-clause-cut c = λ sorted. subst (λ rest. AreCut c.args.starts.now rest (lists_in c.loop-rest.rounds.items)) (no_rest c.loop-rest.rest.now c.loop-rest-test.ensures) (c.loop-rest.invariant.grouped sorted)

pub loop-rest-smaller : goal.loop-rest-smaller
loop-rest-smaller c =
    let back = c.split_at.ensures.back_len in
    let some = c.first_round.ensures.some in
    let within = c.first_round.ensures.within in
    omega (arith, back, some, within)
