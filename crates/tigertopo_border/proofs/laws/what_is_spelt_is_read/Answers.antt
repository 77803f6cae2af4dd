use Rattle.tigertopo_border.proofs.RecordLemmas.{content_read}
use Rattle.tigertopo_border.proofs.laws.what_is_spelt_is_read.Goals as goal

pub returns : goal.returns
returns c = λ r fine. content_read r fine
