use Rattle.std.proofs.Common.{◌≡◌, ◌+◌, ◌-◌, ◌≤◌, length, drop, arith, subst}
use Rattle.tl_record.proofs.Blanks.{field_within}
use Rattle.tl_record.proofs.pair.pair_onward.Goals as goal

pub returns-clause-lat : goal.returns-clause-lat
returns-clause-lat c =
    let line = c.args.line.now in
    let lat = c.args.columns.now.lat in
    let start = c.args.columns.now.long.first - 1 in
    let whole : 10 + 9 ≤ length (drop start line) = subst (λ bytes. 19 ≤ length bytes) c.in-Some.ensures.bytes c.in-Some.ensures.many in
    let behind : lat.first - 1 ≡ start + 10 = omega (arith, c.first.ensures.first, c.first.ensures.range.from_one, c.first-2.ensures.first, c.from.ensures, c.from-2.ensures, c.if-from.false) in
    rw c.in-Some.ensures.bytes (field_within line lat start 10 9 (omega (arith, c.width-else-width-ne10.ensures.width, c.if-width-ne9.false)) behind whole)
