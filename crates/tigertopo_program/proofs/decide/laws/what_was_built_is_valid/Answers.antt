use Rattle.tigertopo_program.proofs.DecideLemmas.LawLemmas.{built_is_valid}
use Rattle.tigertopo_program.proofs.decide.laws.what_was_built_is_valid.Goals as goal

pub returns : goal.returns
returns g = built_is_valid
