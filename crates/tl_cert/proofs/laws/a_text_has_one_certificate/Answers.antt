use Rattle.tl_cert.proofs.OneText.{one_by_text}
use Rattle.tl_cert.proofs.laws.a_text_has_one_certificate.Goals as goal

pub returns : goal.returns
returns c = one_by_text
