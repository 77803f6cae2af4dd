use Rattle.tigertopo_program.proofs.DecideLemmas.LawLemmas.{passes, not_stopped}
use Rattle.tigertopo_program.proofs.decide.laws.what_was_built_passes.Goals as goal

pub returns-clause-status : goal.returns-clause-status
returns-clause-status g = passes

pub returns-clause-stops : goal.returns-clause-stops
returns-clause-stops g = not_stopped
