use Rattle.std.proofs.lemmas.List.{drop_all}
use Rattle.std.proofs.lemmas.Result.{err_from_is_err_and}
use Rattle.std.proofs.Common.{pos, refl}
use Rattle.tl_geom.specs.declared.point.Point.{Point}
use Rattle.tl_map.proofs.RowLemmas.{point_kept, point_passed}
use Rattle.tl_map.proofs.join.append_distinct.Goals.{then-ne+in_ok-push, else-ne}
use Rattle.tl_map.proofs.join.append_distinct.Goals as goal

pub loop-point-preserved : goal.loop-point-preserved
loop-point-preserved c = λ rest.
    let d : Point = record { x = pos 0; y = pos 0 } in
    let before = c.loop-point.invariant rest in
    elim c.if-ne.branch [
      | then-ne+in_ok-push w ↦ rw (w.points-is, w.last-is) (point_kept c.args.more.now rest c.loop-point.points.items w.push.new.self.items _ c.loop-point.point-index d c.loop-point.last c.loop-point-test.true w.if-ne.ensures w.in_ok-push.ensures.items before)
      | else-ne w ↦ rw (w.points-is, w.last-is) (point_passed c.args.more.now rest c.loop-point.points.items _ c.loop-point.point-index d c.loop-point.last c.loop-point-test.true w.if-ne.ensures before)
    ]

pub returns-in_err-push : goal.returns-in_err-push
returns-in_err-push c =
    let p = err_from_is_err_and c.from_residual.result c.from_residual.ensures.1 in
    rw p.1 tt

pub loop-point-init : goal.loop-point-init
loop-point-init c = λ rest. refl

pub returns : goal.returns
returns c = λ rest. rw (drop_all c.loop-point.point-index c.args.more.now c.loop-point-test.false) at (c.loop-point.invariant rest)
