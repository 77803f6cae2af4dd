use Rattle.std.proofs.Common.{arith}
use Rattle.std.proofs.lemmas.Int.{ints}
use Rattle.tl_check_active.proofs.Joining.{first_behind, last_before, none_before}
use Rattle.tl_check_gaps.proofs.placing.is_between.Goals as goal
use Rattle.tl_check_gaps.proofs.placing.is_between.Goals.{else-from-gt0-via-then-from-gt0+else-height-h, else-from-gt0-via-else-from-gt0}

pub returns-clause-below : goal.returns-clause-below
returns-clause-below c = λ h d some. elim c.else-from-gt0.branch [
  | else-from-gt0-via-then-from-gt0+else-height-h w ↦
      let last = last_before c.args.from c.args.events.now w.point.result d (omega (arith, w.if-from-gt0.true)) (omega (arith, c.requires)) w.point.ensures in
      omega (arith, ints, last, w.height.ensures, w.if-height-h.false)
  | else-from-gt0-via-else-from-gt0 w ↦ absurd (let none = none_before c.args.from c.args.events.now (omega (arith, w.if-from-gt0.false)) in omega (arith, some, none))
]

pub returns-clause-above : goal.returns-clause-above
returns-clause-above c = λ h d.
    let first = first_behind c.args.from c.args.events.now c.point-2.result d c.requires c.point-2.ensures in
    omega (arith, ints, first, c.height-2.ensures, h)
