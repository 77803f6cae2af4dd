use Rattle.std.proofs.Common.{◌≡◌, ◌+◌, ◌-◌, ◌++◌, drop, arith, rules}
use Rattle.std.specs.Prelude.{slice_set}
use Rattle.std.specs.Fmt.{signed_decimal}
use Rattle.std.proofs.lemmas.List.{drop-set, length-set}
use Rattle.tigertopo_program.specs.Print.Printing.{point_text}
use Rattle.tigertopo_program.proofs.PrintingLemmas.{point_parts}
use Rattle.tigertopo_program.proofs.print.chains.put_point.Goals as goal

pub returns-clause-text : goal.returns-clause-text
unfolding point_text
returns-clause-text c =
    let y = c.put_number-latitude in
    let x = c.put_number-longitude in
    let long = length-set y.new.text (y.result - 1) 44 in
    let at_x : x.result - 1 + 1 ≡ x.result = omega arith in
    let at_y : y.result - 1 + 1 ≡ y.result = omega arith in
    let longitude : drop x.result x.new.text ≡ signed_decimal c.args.point.x ++ drop (y.result - 1) (slice_set y.new.text (y.result - 1) 44) = search rules in
    let latitude : drop y.result y.new.text ≡ signed_decimal c.args.point.y ++ drop c.args.end c.args.text.now = search rules in
    rw (drop-set x.new.text (x.result - 1) 32 (omega (arith, long, x.auto.text)), at_x, longitude, drop-set y.new.text (y.result - 1) 44 (omega arith), at_y, latitude)
    (point_parts (signed_decimal c.args.point.x) (signed_decimal c.args.point.y) (drop c.args.end c.args.text.now))
