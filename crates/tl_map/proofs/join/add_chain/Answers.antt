use Rattle.std.proofs.lemmas.Result.{err_from_is_err_and}
use Rattle.std.proofs.Common.{◌∙◌, List, length, ap, inl, inr, sym, arith}
use Rattle.std.specs.List.{flat_map}
use Rattle.std.proofs.lemmas.List.{length_push}
use Rattle.tl_geom.specs.declared.point.Point.{Point}
use Rattle.tl_map_rules.specs.Listing.Shapes.{entry_points}
use Rattle.tl_map.specs.Keeping.Rows.{drawn_through}
use Rattle.tl_map_county.proofs.TableLemmas.{IsTable-push, chains_in-push}
use Rattle.tl_map.proofs.RowLemmas.{one_drawn, length_appended, too_many_with}
use Rattle.tl_map.proofs.join.add_chain.Goals as goal

pub append_chain-requires : goal.append_chain-requires
append_chain-requires c = c.requires.inside

pub returns-in_err-append_chain : goal.returns-in_err-append_chain
returns-in_err-append_chain c =
    let p = err_from_is_err_and c.from_residual.result c.from_residual.ensures.1 in
    rw (p.1, p.2) tt

pub returns-then-count-eq1 : goal.returns-then-count-eq1
returns-then-count-eq1 c =
    let between : List Point = flat_map (entry_points c.args.pool.now) c.args.run.now in
    let more : List Point = drawn_through c.args.chain.now between in
    let count = length_appended c.args.points.now.items more c.append_chain.new.points.items _ _ _ _ c.in_ok-append_chain.ensures c.len-first.ensures c.len.ensures (omega (arith, c.args.points.now.ok.0)) (omega (arith, c.append_chain.new.points.ok.0)) in
    inl (sym count.1 ∙ c.if-count-eq1.true)

pub returns-then-len : goal.returns-then-len
returns-then-len c =
    let between : List Point = flat_map (entry_points c.args.pool.now) c.args.run.now in
    let more : List Point = drawn_through c.args.chain.now between in
    inr (too_many_with c.args.points.now.items more c.append_chain.new.points.items c.args.rows.now.items c.args.chain.now.tlid c.requires.table c.in_ok-append_chain.ensures (one_drawn c.args.chain.now between) (omega (arith, c.if-len.true, c.len-2.ensures, c.len-3.ensures, c.append_chain.new.points.ok.0, c.args.rows.now.ok.0)))

pub returns-in_err-push : goal.returns-in_err-push
returns-in_err-push c =
    let p = err_from_is_err_and c.from_residual-in_err-push.result c.from_residual-in_err-push.ensures.1 in
    rw (p.1, p.2) tt

pub returns : goal.returns
returns c =
    let between : List Point = flat_map (entry_points c.args.pool.now) c.args.run.now in
    let more : List Point = drawn_through c.args.chain.now between in
    let count = length_appended c.args.points.now.items more c.append_chain.new.points.items _ _ _ _ c.in_ok-append_chain.ensures c.len-first.ensures c.len.ensures (omega (arith, c.args.points.now.ok.0)) (omega (arith, c.append_chain.new.points.ok.0)) in
    let long = ap length c.in_ok-push.ensures.items ∙ length_push c.args.rows.now.items _ in
    record {
      table = rw (c.in_ok-append_chain.ensures, c.in_ok-push.ensures.items)
          (IsTable-push c.args.points.now.items more c.args.rows.now.items c.args.chain.now.tlid _ _ c.requires.table count.0 count.1 (one_drawn c.args.chain.now between));
      few = omega (arith, c.if-len.false, c.len-2.ensures, c.len-3.ensures, c.append_chain.new.points.ok.0, c.args.rows.now.ok.0, long);
      added = rw (c.in_ok-append_chain.ensures, c.in_ok-push.ensures.items)
          (chains_in-push c.args.points.now.items more c.args.rows.now.items c.args.chain.now.tlid _ _ c.requires.table.within count.0 count.1);
      rows = long;
      several = λ one. c.if-count-eq1.false (count.1 ∙ one);
    }
