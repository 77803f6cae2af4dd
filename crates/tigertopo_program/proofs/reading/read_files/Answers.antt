use Rattle.tigertopo_files.proofs.WorldLemmas.{does_answer, does_fail}
use Rattle.tigertopo_program.proofs.reading.read_files.Goals as goal

pub returns-in_err-read : goal.returns-in_err-read
returns-in_err-read g c = does_fail _ _ _ _ _ c.in_err-read.field-0.0 c.in_err-read.ensures _ c.from_residual.result c.from_residual.ensures.1

pub returns : goal.returns
returns g c = does_answer _ _ _ _ _ c.in_ok-read.field-0 c.in_ok-read.ensures _ _ c.in_ok-read.ensures.answered.answered
