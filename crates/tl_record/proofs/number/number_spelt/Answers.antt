use Rattle.std.proofs.Common.{arith}
use Rattle.tl_record.proofs.number.number_spelt.Goals as goal

pub digits_spell-requires : goal.digits_spell-requires
digits_spell-requires c = omega arith
