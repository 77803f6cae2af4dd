use Rattle.tigertopo_border.proofs.WholeLemmas.Counts.{counts}
use Rattle.tigertopo_border.proofs.whole.laws.told_chains_count_as_all.Goals as goal

pub returns : goal.returns
returns c = λ names told chains others q S n are passed proper. counts names told passed chains others are proper q S n
