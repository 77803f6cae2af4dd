use Rattle.tigertopo_program.proofs.DecideLemmas.LawLemmas.{audit_is_exact}
use Rattle.tigertopo_program.proofs.decide.laws.an_audit_is_exact.Goals as goal

pub returns : goal.returns
returns g = audit_is_exact
