use Rattle.std.proofs.Common.{length, arith}
use Rattle.std.proofs.lemmas.Result.{err_from_is_err_and}
use Rattle.tl_check_gaps.proofs.Unmarked.{none_before, marked_more, listed_more}
use Rattle.tl_check_gaps.proofs.spots.list_unmarked.Goals as goal

pub loop-p-preserved : goal.loop-p-preserved
loop-p-preserved c =
    listed_more (length c.args.map.now.polygons) c.args.marks.now c.loop-p.p c.loop-p.polygons.items _
    (let lt = c.loop-p-test.true in let count = c.polygons-p-end.ensures in omega (arith, lt, count)) c.in_ok-push.ensures.items c.loop-p.invariant

pub loop-p-preserved-then-is_marked : goal.loop-p-preserved-then-is_marked
loop-p-preserved-then-is_marked c =
    marked_more (length c.args.map.now.polygons) c.args.marks.now c.loop-p.p c.loop-p.polygons.items (c.is_marked.ensures c.if-is_marked.true) c.loop-p.invariant

pub returns-in_err-push-clause-known : goal.returns-in_err-push-clause-known
returns-in_err-push-clause-known c = let p = err_from_is_err_and c.from_residual.result c.from_residual.ensures.1 in rw p.1 tt

pub returns-in_err-push-clause-others : goal.returns-in_err-push-clause-others
returns-in_err-push-clause-others c = let p = err_from_is_err_and c.from_residual.result c.from_residual.ensures.1 in rw p.1 tt

pub loop-p-init : goal.loop-p-init
loop-p-init c = none_before (length c.args.map.now.polygons) c.args.marks.now c.new-polygons.result.items c.new-polygons.ensures.items

pub returns-clause-known : goal.returns-clause-known
returns-clause-known c = c.loop-p.invariant.known

pub returns-clause-others : goal.returns-clause-others
returns-clause-others c = λ q lt.
    let past = c.loop-p-test.false in
    let count = c.polygons-p-end.ensures in
    c.loop-p.invariant.others q (omega (arith, lt, past, count))
