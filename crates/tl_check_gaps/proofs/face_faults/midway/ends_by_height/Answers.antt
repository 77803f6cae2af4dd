use Rattle.std.proofs.Common.{arith}
use Rattle.std.proofs.lemmas.Int.{ints}
use Rattle.tl_check_gaps.proofs.Ranges.{rising}
use Rattle.tl_check_gaps.proofs.face_faults.midway.ends_by_height.Goals as goal

pub returns-clause-rising : goal.returns-clause-rising
returns-clause-rising c =
    rising c.args.segment c.ends.result.0 c.ends.result.1 c.ends.ensures.low c.ends.ensures.high
    (record { west = omega (arith, ints, c.ends.type_inv); east = omega (arith, ints, c.ends.type_inv) })
    (record { west = omega (arith, ints, c.ends.type_inv); east = omega (arith, ints, c.ends.type_inv) })
