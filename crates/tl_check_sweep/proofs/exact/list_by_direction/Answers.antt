use Rattle.std.proofs.Common.{◌≡◌, ℕ, ◌<◌, [], ◌∷◌, get_or, take_all, length, take, ap, sym, subst, ◌∙◌, arith}
use Rattle.std.proofs.lemmas.Result.{err_from_is_err_and}
use Rattle.std.specs.Prelude.{All}
use Rattle.std.specs.List.{insert}
use Rattle.std.proofs.lemmas.List.{take_more}
use Rattle.tl_tree_index.specs.Hits.{times}
use Rattle.tl_tree_index.proofs.Times.{times-append}
use Rattle.tl_check_planar.specs.ByHeight.Neighbours.{EachTwo}
use Rattle.tl_check_sweep.specs.Keeping.Exact.{BeginsAt, IsWestOfOther}
use Rattle.tl_check_sweep.proofs.Putting.{all_insert, times_insert}
use Rattle.tl_check_sweep.proofs.exact.list_by_direction.Goals as goal

pub place_among-place-requires-clause-begin : goal.place_among-place-requires-clause-begin
place_among-place-requires-clause-begin c = subst (All (BeginsAt c.args.map.now.chains c.args.p)) (sym c.deref.ensures.value) c.loop-k.invariant.begin

pub loop-k-preserved : goal.loop-k-preserved
loop-k-preserved c =
    let chains = c.args.map.now.chains in
    let ins = c.args.ins.now in
    let list = c.loop-k.list.items in
    let k = c.loop-k.k in
    let one : ℕ = get_or ins k 0 in
    let place = c.place_among-place.result in
    let lt : k < length ins = c.loop-k-test.true in
    record {
      begin = subst (All (BeginsAt chains c.args.p)) (sym c.in_ok-insert.ensures.items)
          (all_insert (BeginsAt chains c.args.p) list place one c.loop-k.invariant.begin (c.requires.begin k 0 lt));
      west = subst (EachTwo (IsWestOfOther chains)) (sym c.in_ok-insert.ensures.items)
          (subst (λ l. EachTwo (IsWestOfOther chains) (insert l place one)) c.deref.ensures.value c.place_among-place.ensures.west);
      same = λ s.
          let now = ap (times s) c.in_ok-insert.ensures.items ∙ times_insert s one place list in
          let so_far = c.loop-k.invariant.same s in
          let more = ap (times s) (take_more ins k 0 lt) ∙ times-append s (take k ins) (one ∷ []) in
          omega (arith, now, so_far, more);
    }

pub returns-in_err-insert-clause-begin : goal.returns-in_err-insert-clause-begin
returns-in_err-insert-clause-begin c = let p = err_from_is_err_and c.from_residual.result c.from_residual.ensures.1 in rw p.1 tt

pub returns-in_err-insert-clause-west : goal.returns-in_err-insert-clause-west
returns-in_err-insert-clause-west c = let p = err_from_is_err_and c.from_residual.result c.from_residual.ensures.1 in rw p.1 tt

pub returns-in_err-insert-clause-same : goal.returns-in_err-insert-clause-same
returns-in_err-insert-clause-same c = let p = err_from_is_err_and c.from_residual.result c.from_residual.ensures.1 in rw p.1 tt

pub returns-clause-begin : goal.returns-clause-begin
returns-clause-begin c = c.loop-k.invariant.begin

pub returns-clause-west : goal.returns-clause-west
returns-clause-west c = c.loop-k.invariant.west

pub place_among-place-requires-clause-begins : goal.place_among-place-requires-clause-begins
place_among-place-requires-clause-begins c = c.requires.begin c.loop-k.k 0 c.loop-k-test.true

pub place_among-place-requires-clause-west : goal.place_among-place-requires-clause-west
place_among-place-requires-clause-west c = subst (EachTwo (IsWestOfOther c.args.map.now.chains)) (sym c.deref.ensures.value) c.loop-k.invariant.west

pub returns-clause-same : goal.returns-clause-same
returns-clause-same c = λ s.
    let ins = c.args.ins.now in
    let past = c.loop-k-test.false in
    let all : take c.loop-k.k ins ≡ ins = take_all c.loop-k.k ins past in
    c.loop-k.invariant.same s ∙ ap (times s) all
