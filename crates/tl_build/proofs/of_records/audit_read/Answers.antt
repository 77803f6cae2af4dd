use Rattle.std.proofs.Common.{sym, subst, ap}
use Rattle.std.proofs.lemmas.Result.{err_from_is_err_and}
use Rattle.tl_build.specs.Keeping.Refusing.{audit_of}
use Rattle.tl_build.specs.Keeping.Deciding.{AuditsRead}
use Rattle.tl_build.proofs.of_records.audit_read.Goals as goal

pub returns-in-Ok : goal.returns-in-Ok
returns-in-Ok c = subst (λ read. AuditsRead c.args.faces read c.audit_for.result) (sym c.in-Ok.is) c.audit_for.ensures

pub returns-in_ok-fault_of_records-in-Err : goal.returns-in_ok-fault_of_records-in-Err
returns-in_ok-fault_of_records-in-Err c = rw c.in-Err.is (ap audit_of c.in_ok-fault_of_records-in-Err.ensures)

pub returns-in_err-fault_of_records-in-Err : goal.returns-in_err-fault_of_records-in-Err
returns-in_err-fault_of_records-in-Err c =
    let p = err_from_is_err_and c.from_residual.result c.from_residual.ensures.1 in
    rw (c.in-Err.is, p.1, p.2) (ap audit_of c.in_err-fault_of_records-in-Err.ensures)
