use Rattle.std.proofs.Common.{◌≢◌, ◌≤◌, length, get_or, rules, arith}
use Rattle.std.proofs.lemmas.Bool.Decides.{nat_tests}
use Rattle.tigertopo_words.proofs.DegreesLemmas.{read_scaled, no_read_part}
use Rattle.tigertopo_words.proofs.degrees.decimals_of.Goals as goal

pub overflow_mul-result : goal.overflow_mul-result
overflow_mul-result c =
    let some : 1 ≤ length c.as_bytes-bytes.result.now = search (rules, arith, nat_tests) in
    let few : length c.as_bytes-bytes.result.now ≤ 6 = omega arith in
    let plain : get_or c.as_bytes-bytes.result.now 0 0 ≢ 43 = c.if-bytes-eq43.false in
    let read = read_scaled c.args.text.now c.as_bytes-bytes.result.now c.in-Ok.number c.scale_of.result c.parse.result c.as_bytes-bytes.ensures.value plain some few c.parse.ensures.value.0 c.in-Ok.is c.scale_of.ensures in
    let less = read.1 in omega (arith, less)

pub returns-in-Ok : goal.returns-in-Ok
returns-in-Ok c =
    let some : 1 ≤ length c.as_bytes-bytes.result.now = search (rules, arith, nat_tests) in
    let few : length c.as_bytes-bytes.result.now ≤ 6 = omega arith in
    let plain : get_or c.as_bytes-bytes.result.now 0 0 ≢ 43 = c.if-bytes-eq43.false in
    read_scaled c.args.text.now c.as_bytes-bytes.result.now c.in-Ok.number c.scale_of.result c.parse.result c.as_bytes-bytes.ensures.value plain some few c.parse.ensures.value.0 c.in-Ok.is c.scale_of.ensures

pub returns-in-Err : goal.returns-in-Err
returns-in-Err c = no_read_part c.args.text.now c.in-Err.field-0 c.parse.result c.parse.ensures.value.0 c.in-Err.is
