use Rattle.std.proofs.Common.{sym, subst}
use Rattle.std.proofs.lemmas.Result.{err_from_is_err_and}
use Rattle.tl_check_gaps.specs.Keeping.Spotted.{AreTrueMarks}
use Rattle.tl_check_sweep.proofs.Deciding.{exactly}
use Rattle.tl_check_sweep.proofs.answer.sweep.Goals as goal

pub suspects_of-requires-clause-answer : goal.suspects_of-requires-clause-answer
suspects_of-requires-clause-answer c = c.in_ok-swept.ensures.answer

pub suspects_of-requires-clause-marks : goal.suspects_of-requires-clause-marks
suspects_of-requires-clause-marks c = subst (AreTrueMarks c.args.map.now) (sym c.deref.ensures.value) c.in_ok-swept.ensures.marks

pub returns : goal.returns
returns c = record {
  exact = exactly c.args.map.now c.in_ok-swept.field-0.swept c.in_ok-swept.ensures.answer;
  answer = c.in_ok-swept.ensures.answer;
  suspects = record { known = c.in_ok-suspects.ensures.known; others = c.in_ok-suspects.ensures.others };
  gaps = λ planar. let gaps = c.in_ok-swept.ensures.gaps planar in record { odd = gaps.true_ones; agree = gaps.agree; all = gaps.whole };
}

pub returns-in_err-swept : goal.returns-in_err-swept
returns-in_err-swept c = let p = err_from_is_err_and c.from_residual.result c.from_residual.ensures.1 in rw p.1 tt

pub returns-in_err-suspects : goal.returns-in_err-suspects
returns-in_err-suspects c = let p = err_from_is_err_and c.from_residual-in_err-suspects.result c.from_residual-in_err-suspects.ensures.1 in rw p.1 tt
