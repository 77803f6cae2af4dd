use Rattle.std.proofs.Common.{arith}
use Rattle.tl_record.proofs.judge.sequence_number.Goals as goal

pub overflow_cast-result : goal.overflow_cast-result
overflow_cast-result c = omega arith
