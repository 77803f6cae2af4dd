use Rattle.tl_cert_output.specs.declared.stop.Stop.TheVariants.{Memory}
use Rattle.tl_cert_output.proofs.StopLemmas.{by_stop}
use Rattle.tl_build.specs.Auditing.{IsMemoryStop}
use Rattle.tl_build.proofs.walks.planar_walks.Goals as goal

pub returns-in_err-walks-clause-stops : goal.returns-in_err-walks-clause-stops
returns-in_err-walks-clause-stops c = by_stop c.from_residual.result Memory IsMemoryStop c.from_residual.ensures.1 tt
