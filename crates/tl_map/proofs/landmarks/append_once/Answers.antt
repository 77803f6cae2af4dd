use Rattle.std.proofs.lemmas.Result.{err_from_is_err_and}
use Rattle.std.proofs.Common.{◌<◌, ◌∙◌, length, get_or, refl, arith}
use Rattle.std.proofs.lemmas.List.{length-set}
use Rattle.tl_map.specs.declared.landmarks.Link.{Link}
use Rattle.tl_map.proofs.MarkLemmas.{marking_old, marking_new, marking_none, marking_all}
use Rattle.tl_map.proofs.landmarks.append_once.Goals as goal
use Rattle.tl_map.proofs.landmarks.append_once.Goals.{then-marks-place+in_ok-push, else-marks-place}

pub loop-link-preserved : goal.loop-link-preserved
loop-link-preserved c =
    let x : Link = record { landmark = 0; polygon = 0 } in
    let inside : (get_or c.args.run.now c.loop-link.link-index x).polygon < length c.loop-link.marks = omega (arith, c.requires.inside c.loop-link.link-index x c.loop-link-test.true, c.loop-link.invariant.same) in
    elim c.if-marks-place.branch [
      | then-marks-place+in_ok-push w ↦
          let after = marking_new c.args.run.now c.loop-link.link-index c.args.mark x c.args.linked.now.items c.loop-link.linked.items c.loop-link.marks c.loop-link-test.true inside w.if-marks-place.true c.loop-link.invariant.marking in
          rw (w.linked-is, w.marks-is, w.in_ok-push.ensures.items) (record { marking = after; same = length-set c.loop-link.marks (get_or c.args.run.now c.loop-link.link-index x).polygon c.args.mark ∙ c.loop-link.invariant.same })
      | else-marks-place w ↦
          let after = marking_old c.args.run.now c.loop-link.link-index c.args.mark x c.args.linked.now.items c.loop-link.linked.items c.loop-link.marks c.loop-link-test.true inside w.if-marks-place.false c.loop-link.invariant.marking in
          rw (w.linked-is, w.marks-is) (record { marking = after; same = c.loop-link.invariant.same })
    ]

pub loop-link-init : goal.loop-link-init
loop-link-init c = record { marking = marking_none c.args.run.now c.args.mark c.args.linked.now.items c.args.marks.now c.requires.fresh; same = refl }

pub returns-clause-linked : goal.returns-clause-linked
returns-clause-linked c = marking_all c.args.run.now c.loop-link.link-index c.args.mark _ _ _ c.loop-link-test.false c.loop-link.invariant.marking

pub returns-clause-marks : goal.returns-clause-marks
returns-clause-marks c = c.loop-link.invariant.marking.low

pub returns-in_err-push-clause-linked : goal.returns-in_err-push-clause-linked
returns-in_err-push-clause-linked c =
    let p = err_from_is_err_and c.from_residual.result c.from_residual.ensures.1 in
    rw p.1 tt

pub returns-clause-length : goal.returns-clause-length
returns-clause-length c = c.loop-link.invariant.same

pub returns-in_err-push-clause-marks : goal.returns-in_err-push-clause-marks
returns-in_err-push-clause-marks c =
    let p = err_from_is_err_and c.from_residual.result c.from_residual.ensures.1 in
    rw p.1 tt

pub returns-in_err-push-clause-length : goal.returns-in_err-push-clause-length
returns-in_err-push-clause-length c =
    let p = err_from_is_err_and c.from_residual.result c.from_residual.ensures.1 in
    rw p.1 tt
