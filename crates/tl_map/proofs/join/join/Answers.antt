use Rattle.std.proofs.Common.{◌≡◌, ◌∙◌, ◌-◌, ℕ, ap, map, length, get_or, pos, arith, refl}
use Rattle.std.proofs.lemmas.Result.{err_from_is_err_and}
use Rattle.tl_map_rules.specs.declared.entry.ChainEntry.{ChainEntry}
use Rattle.std.proofs.lemmas.List.{take_all}
use Rattle.tl_map_rules.specs.Listing.Shapes.{IsInside}
use Rattle.tl_map.specs.Keeping.Entries.{joined}
use Rattle.tl_map_county.specs.Chains.{segment_count}
use Rattle.tl_map.proofs.JoinLemmas.{run_is, above_run, behind_more, ahead_more, ahead_first, drawn_is, joined_more, unjoinable, several_more}
use Rattle.tl_map.proofs.UnbuiltLemmas.{stops_for}
use Rattle.tl_map.proofs.ListedLemmas.{part_inside}
use Rattle.tl_map_county.proofs.TableLemmas.{IsTable-nil}
use Rattle.tl_map.proofs.join.join.Goals as goal

pub loop-chain-init : goal.loop-chain-init
loop-chain-init c = record {
  within = omega arith;
  behind = λ k m d e lt. absurd (omega arith);
  ahead = ahead_first c.args.chains.now c.args.shapes.now c.requires.rising c.requires.known;
  table = IsTable-nil _ _ c.in_ok-points.ensures.items c.in_ok-rows.ensures.items;
  count = rw c.in_ok-rows.ensures.items refl;
  few = let none : length c.in_ok-points.points.items ≡ 0 = rw c.in_ok-points.ensures.items refl in omega (arith, none);
  are = rw c.in_ok-rows.ensures.items refl;
  several = λ k d lt. absurd (omega arith);
}

pub returns-in_err-add_chain : goal.returns-in_err-add_chain
returns-in_err-add_chain c =
    let chains = c.args.chains.now in
    let shapes = c.args.shapes.now in
    let i = c.loop-chain.chain-index in
    let s = c.loop-chain.start in
    let e = c.run_end-end.result in
    let x : ChainEntry = record { tlid = 0; from = record { x = pos 0; y = pos 0 }; to = record { x = pos 0; y = pos 0 } } in
    let chain : ChainEntry = get_or chains i x in
    let t : ℕ = chain.tlid in
    let above = above_run shapes s e t c.run_end-end.ensures.from c.requires.ordered (λ k d low high. c.loop-chain.invariant.ahead k d x low high c.loop-chain-test.true) c.run_end-end.ensures.stops in
    let run = run_is shapes s e t c.run_end-end.ensures.from c.run_end-end.ensures.within c.requires.ordered (λ k d lt. c.loop-chain.invariant.behind k i d x lt (omega arith) c.loop-chain-test.true) c.run_end-end.ensures.same above in
    let drawn = drawn_is c.args.pool.now shapes chain _ run in
    let p = err_from_is_err_and c.from_residual-in_err-add_chain.result c.from_residual-in_err-add_chain.ensures.1 in
    rw (p.1, p.2) (stops_for _ _ c.in_err-add_chain.field-0.0 (unjoinable (joined c.args.pool.now shapes) chains i x _ _ c.loop-chain-test.true c.loop-chain.invariant.are drawn) c.in_err-add_chain.ensures)

pub loop-chain-preserved : goal.loop-chain-preserved
loop-chain-preserved c =
    let chains = c.args.chains.now in
    let shapes = c.args.shapes.now in
    let i = c.loop-chain.chain-index in
    let s = c.loop-chain.start in
    let e = c.run_end-end.result in
    let x : ChainEntry = record { tlid = 0; from = record { x = pos 0; y = pos 0 }; to = record { x = pos 0; y = pos 0 } } in
    let chain : ChainEntry = get_or chains i x in
    let t : ℕ = chain.tlid in
    let above = above_run shapes s e t c.run_end-end.ensures.from c.requires.ordered (λ k d low high. c.loop-chain.invariant.ahead k d x low high c.loop-chain-test.true) c.run_end-end.ensures.stops in
    let run = run_is shapes s e t c.run_end-end.ensures.from c.run_end-end.ensures.within c.requires.ordered (λ k d lt. c.loop-chain.invariant.behind k i d x lt (omega arith) c.loop-chain-test.true) c.run_end-end.ensures.same above in
    let drawn = drawn_is c.args.pool.now shapes chain _ run in
    record {
      within = c.run_end-end.ensures.within;
      behind = behind_more chains shapes i s e x c.loop-chain-test.true c.requires.rising c.loop-chain.invariant.behind c.run_end-end.ensures.same;
      ahead = ahead_more chains shapes i e x c.loop-chain-test.true c.requires.rising c.requires.known above;
      table = c.in_ok-add_chain.ensures.table;
      count = omega (arith, c.in_ok-add_chain.ensures.rows, c.loop-chain.invariant.count);
      few = c.in_ok-add_chain.ensures.few;
      are = joined_more c.args.pool.now chains shapes i x _ _ _ c.loop-chain-test.true c.in_ok-add_chain.ensures.added drawn c.loop-chain.invariant.are;
      several = several_more (joined c.args.pool.now shapes) chains i x _ c.loop-chain-test.true drawn c.in_ok-add_chain.ensures.several c.loop-chain.invariant.several;
    }

pub add_chain-requires : goal.add_chain-requires
add_chain-requires c = record {
  inside = part_inside (IsInside c.args.pool.now) c.args.shapes.now c.loop-chain.start (c.run_end-end.result - c.loop-chain.start) c.requires.inside (omega (arith, c.run_end-end.ensures.from, c.run_end-end.ensures.within));
  table = c.loop-chain.invariant.table;
  room = omega (arith, c.loop-chain.invariant.count, c.loop-chain-test.true, c.requires.room);
  few = c.loop-chain.invariant.few;
}

pub returns-in_err-points : goal.returns-in_err-points
returns-in_err-points c =
    let p = err_from_is_err_and c.from_residual.result c.from_residual.ensures.1 in
    rw (p.1, p.2) tt

pub returns-in_err-rows : goal.returns-in_err-rows
returns-in_err-rows c =
    let p = err_from_is_err_and c.from_residual-in_err-rows.result c.from_residual-in_err-rows.ensures.1 in
    rw (p.1, p.2) tt

pub run_end-end-requires : goal.run_end-end-requires
run_end-end-requires c = c.loop-chain.invariant.within

pub new-requires-clause-table : goal.new-requires-clause-table
new-requires-clause-table c = c.loop-chain.invariant.table

pub new-requires-clause-few : goal.new-requires-clause-few
new-requires-clause-few c = c.loop-chain.invariant.few

pub returns : goal.returns
returns c =
    let chains = c.args.chains.now in
    let all = c.loop-chain.invariant.are ∙ ap (map (joined c.args.pool.now c.args.shapes.now)) (take_all c.loop-chain.chain-index chains c.loop-chain-test.false) in
    let count = ap segment_count all in
    record {
      are = rw (c.new.ensures, all) refl;
      several = λ k d lt. c.loop-chain.invariant.several k d (omega (arith, lt, c.loop-chain-test.false));
      few = omega (arith, count, c.loop-chain.invariant.table.total, c.loop-chain.invariant.few);
    }
