use Rattle.std.proofs.Common.{arith}
use Rattle.tl_cert.proofs.KindLemmas.{number_is}
use Rattle.tl_cert.proofs.node_line.small_number.Goals as goal

pub returns-then-k-from : goal.returns-then-k-from
returns-then-k-from c = λ k least most is.
    let same = number_is c.args.bytes.now c.in-Some.k k c.in-Some.ensures.0 c.in-Some.ensures.1 is (omega arith) in
    grind (arith, same, least)

pub returns-then-k-from-2 : goal.returns-then-k-from-2
returns-then-k-from-2 c = λ k least most is.
    let same = number_is c.args.bytes.now c.in-Some.k k c.in-Some.ensures.0 c.in-Some.ensures.1 is (omega arith) in
    grind (arith, same, most)
