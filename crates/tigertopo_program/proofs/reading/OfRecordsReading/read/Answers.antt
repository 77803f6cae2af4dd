use Rattle.tigertopo_files.proofs.LendingLemmas.{tells_joined}
use Rattle.tigertopo_program.proofs.reading.OfRecordsReading.read.Goals as goal

pub returns-clause-failures : goal.returns-clause-failures
returns-clause-failures g c = tells_joined _ _ _ _ c.ask.result c.requires.fresh c.requires.fresh_single c.ask.ensures.failures
