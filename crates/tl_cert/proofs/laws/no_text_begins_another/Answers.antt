use Rattle.tl_cert.proofs.OneText.{no_text_further}
use Rattle.tl_cert.proofs.laws.no_text_begins_another.Goals as goal

pub returns : goal.returns
returns c = no_text_further
