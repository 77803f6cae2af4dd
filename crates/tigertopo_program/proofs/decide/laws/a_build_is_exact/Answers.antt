use Rattle.tigertopo_program.proofs.DecideLemmas.LawLemmas.{build_is_exact}
use Rattle.tigertopo_program.proofs.decide.laws.a_build_is_exact.Goals as goal

pub returns : goal.returns
returns g = build_is_exact
