use Rattle.std.proofs.Common.{refl, arith, ap, ◌∙◌}
use Rattle.std.proofs.lemmas.Result.{err_from_is_err_and}
use Rattle.tigertopo_faults.specs.Records.Kept.{in_lists}
use Rattle.tigertopo_faults.proofs.WalkedLemmas.{all_of, one_more}
use Rattle.tigertopo_faults.proofs.records.lines.all_segments.Goals as goal

pub loop-number-preserved : goal.loop-number-preserved
loop-number-preserved c =
    let kept = c.args.kept.now in
    ap in_lists c.in_ok-push.ensures.items
    ∙ one_more c.args.telling kept.subjects.keys kept.lines.items c.loop-number.segments.items c.in_ok-its.its c.loop-number.number c.subject.result c.at.result.now c.subject.ensures c.at.ensures c.in_ok-its.ensures c.loop-number.invariant

pub returns-in_err-segments : goal.returns-in_err-segments
returns-in_err-segments c = let p = err_from_is_err_and c.from_residual.result c.from_residual.ensures.1 in rw p.1 tt

pub returns-in_err-its : goal.returns-in_err-its
returns-in_err-its c = let p = err_from_is_err_and c.from_residual-in_err-its.result c.from_residual-in_err-its.ensures.1 in rw p.1 tt

pub returns-in_err-push : goal.returns-in_err-push
returns-in_err-push c = let p = err_from_is_err_and c.from_residual-in_err-push.result c.from_residual-in_err-push.ensures.1 in rw p.1 tt

pub subject-requires : goal.subject-requires
subject-requires c = omega (arith, c.loop-number-test.true, c.len-number-end.ensures)

pub at-requires : goal.at-requires
at-requires c = omega (arith, c.loop-number-test.true, c.len-number-end.ensures)

pub loop-number-init : goal.loop-number-init
loop-number-init c = rw c.in_ok-segments.ensures.items refl

pub returns : goal.returns
returns c =
    let kept = c.args.kept.now in
    all_of c.args.telling kept.subjects.keys kept.lines.items c.loop-number.segments.items c.loop-number.number (omega (arith, c.loop-number-test.false, c.len-number-end.ensures)) kept.paired c.loop-number.invariant
