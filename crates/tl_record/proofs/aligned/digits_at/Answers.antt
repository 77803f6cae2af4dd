use Rattle.std.proofs.Common.{arith}
use Rattle.tl_record.proofs.Filled.{nine_parts}
use Rattle.tl_record.proofs.aligned.digits_at.Goals as goal

pub returns-clause-value : goal.returns-clause-value
returns-clause-value c =
    nine_parts c.args.bytes.now c.args.at c.args.count c.in-Some.low (omega arith) (omega (arith, c.in-Some.ensures.there)) c.in-Some.ensures.value
