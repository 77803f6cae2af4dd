use Rattle.std.proofs.lemmas.Result.{err_from_is_err_and}
use Rattle.std.proofs.Common.{get_or}
use Rattle.tl_map_rules.specs.declared.entry.ShapeEntry.{ShapeEntry}
use Rattle.tl_map_rules.specs.declared.entry.Fill.TheVariants.{Full}
use Rattle.tl_map.proofs.RowLemmas.{appended_run, appended_end, cut_points}
use Rattle.tl_map.proofs.join.append_chain.Goals as goal

pub loop-shape-preserved : goal.loop-shape-preserved
loop-shape-preserved c = λ rest.
    let d : ShapeEntry = record { tlid = 0; first = 0; rtsq = 0; used = 0; fill = Full } in
    let x : ShapeEntry = get_or c.args.run.now c.loop-shape.shape-index d in
    appended_run c.args.pool.now c.args.run.now c.loop-shape.shape-index d rest c.loop-shape.points.items c.append_distinct.new.points.items _ _ c.loop-shape.last c.in_ok-last.last c.loop-shape-test.true
    (cut_points x.first c.from.result x.used c.args.pool.now c.from.ensures) c.in_ok-last.ensures (c.loop-shape.invariant rest)

pub returns : goal.returns
returns c =
    appended_end c.args.pool.now c.args.run.now c.loop-shape.shape-index c.loop-shape.points.items _ _ c.args.chain.now.from c.args.chain.now.to c.loop-shape.last _ c.loop-shape-test.false c.in_ok-append_distinct.ensures c.loop-shape.invariant

pub returns-in_err-push : goal.returns-in_err-push
returns-in_err-push c =
    let p = err_from_is_err_and c.from_residual.result c.from_residual.ensures.1 in
    rw p.1 tt

pub returns-in_err-last : goal.returns-in_err-last
returns-in_err-last c =
    let p = err_from_is_err_and c.from_residual-in_err-last.result c.from_residual-in_err-last.ensures.1 in
    rw p.1 tt

pub returns-in_err-append_distinct : goal.returns-in_err-append_distinct
returns-in_err-append_distinct c =
    let p = err_from_is_err_and c.from_residual-in_err-append_distinct.result c.from_residual-in_err-append_distinct.ensures.1 in
    rw p.1 tt
