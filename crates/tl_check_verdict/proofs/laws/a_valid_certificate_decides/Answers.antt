use Rattle.tl_check_verdict.proofs.Deciding.{decides}
use Rattle.tl_check_verdict.proofs.laws.a_valid_certificate_decides.Goals as goal

pub returns : goal.returns
returns c = decides
