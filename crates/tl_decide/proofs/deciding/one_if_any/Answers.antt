use Rattle.std.proofs.Common.{subst}
use Rattle.std.specs.Prelude.{MatchOption}
use Rattle.std.proofs.lemmas.Result.{IfOk-weaker}
use Rattle.tl_check_verdict.specs.Sound.{IsSoundFor}
use Rattle.tl_check_verdict.specs.Truth.{IsTrueOfMapFor}
use Rattle.tl_decide.proofs.Firsts.{first_alone}
use Rattle.tl_decide.proofs.deciding.one_if_any.Goals as goal

pub returns-in-Some : goal.returns-in-Some
returns-in-Some c = λ faces m says.
    IfOk-weaker c.one.result _ _
    (λ told is. first_alone faces m c.in-Some.fault told.faults.items told.touched
    (subst (λ found. MatchOption found (IsSoundFor faces m) (IsTrueOfMapFor faces m)) c.in-Some.is says) is)
    c.one.ensures
