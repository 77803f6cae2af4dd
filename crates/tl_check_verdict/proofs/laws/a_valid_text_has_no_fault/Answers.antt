use Rattle.tl_check_verdict.proofs.Deciding.{not_valid_text}
use Rattle.tl_check_verdict.proofs.laws.a_valid_text_has_no_fault.Goals as goal

pub returns : goal.returns
returns c = not_valid_text
