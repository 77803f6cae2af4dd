use Rattle.std.proofs.Common.{◌≡◌, ◌+◌, ◌-◌, ◌++◌, ap, drop, arith, to_z-of_z}
use Rattle.std.proofs.lemmas.Fmt.{length-decimal-le}
use Rattle.std.proofs.lemmas.List.{drop-set}
use Rattle.itoa.proofs.Decimal.{minus_first}
use Rattle.tigertopo_program.proofs.print.chains.put_number.Goals as goal

pub write_digits-start-requires : goal.write_digits-start-requires
write_digits-start-requires c =
    let long = length-decimal-le 10 c.from.result (omega arith) (omega arith) (omega arith) in
    (omega (arith, long), omega arith)

pub overflow_sub-text : goal.overflow_sub-text
overflow_sub-text c =
    let long = length-decimal-le 10 c.from.result (omega arith) (omega arith) (omega arith) in
    omega (arith, long)

pub overflow_sub-result : goal.overflow_sub-result
overflow_sub-result c =
    let long = length-decimal-le 10 c.from.result (omega arith) (omega arith) (omega arith) in
    omega (arith, long)

pub returns-then-number-ge0-clause-start : goal.returns-then-number-ge0-clause-start
returns-then-number-ge0-clause-start c =
    let long = length-decimal-le 10 c.from.result (omega arith) (omega arith) (omega arith) in
    (omega arith, omega (arith, long))

pub returns-clause-start : goal.returns-clause-start
returns-clause-start c =
    let long = length-decimal-le 10 c.from.result (omega arith) (omega arith) (omega arith) in
    (omega arith, omega (arith, long))

pub returns-clause-text : goal.returns-clause-text
returns-clause-text c =
    let w = c.write_digits-start in
    let long = length-decimal-le 10 c.from.result (omega arith) (omega arith) (omega arith) in
    let e : w.result - 1 + 1 ≡ w.result = omega (arith, long) in
    let back = to_z-of_z c.ranges.number in
    rw (drop-set w.new.buf (w.result - 1) 45 (omega (arith, long)), e, w.ensures.written, c.from.ensures, c.unsigned_abs.ensures.value, back)
    (ap (λ l. l ++ drop c.args.end c.args.text.now) (minus_first c.args.number (rw back at c.if-number-ge0.false)))
