use Rattle.tigertopo_program.proofs.DecideLemmas.LawLemmas.{check_is_exact}
use Rattle.tigertopo_program.proofs.decide.laws.a_check_is_exact.Goals as goal

pub returns : goal.returns
returns g = check_is_exact
