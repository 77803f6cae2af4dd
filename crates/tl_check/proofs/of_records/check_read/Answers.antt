use Rattle.std.proofs.Common.{refl, sym, subst, ap}
use Rattle.std.proofs.lemmas.Result.{err_from_is_err_and}
use Rattle.tl_check.specs.Keeping.Answers.{of_map}
use Rattle.tl_check.specs.Keeping.Read.{IsOfRead}
use Rattle.tl_check.proofs.of_records.check_read.Goals as goal

pub returns-in-Ok : goal.returns-in-Ok
returns-in-Ok g c =
    subst (λ read. IsOfRead g.S.Source.remaining g.S.Source.failure_count read c.args.faces c.args.budget c.args.cert.now c.decide.new.cert c.decide.result)
    (sym c.in-Ok.is) c.decide.ensures

pub returns-in_ok-fault_of_records-in-Err : goal.returns-in_ok-fault_of_records-in-Err
returns-in_ok-fault_of_records-in-Err g c = rw c.in-Err.is (ap of_map c.in_ok-fault_of_records-in-Err.ensures, refl)

pub returns-in_err-fault_of_records-in-Err : goal.returns-in_err-fault_of_records-in-Err
returns-in_err-fault_of_records-in-Err g c =
    let p = err_from_is_err_and c.from_residual.result c.from_residual.ensures.1 in
    rw (c.in-Err.is, p.1, p.2) (ap of_map c.in_err-fault_of_records-in-Err.ensures, refl)
