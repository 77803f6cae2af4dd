use Rattle.tl_check_verdict.proofs.Denials.{not_valid}
use Rattle.tl_check_verdict.proofs.laws.a_valid_certificate_has_no_fault.Goals as goal

pub returns : goal.returns
returns c = not_valid
