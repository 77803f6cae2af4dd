use Rattle.std.proofs.Common.{◌≡◌, to_z, of_z, arith}
use Rattle.std.specs.Int.{w128}
use Rattle.std.proofs.lemmas.Int.{ints}
use Rattle.tl_check_gaps.proofs.face_faults.midway.way_up.Goals as goal

pub returns-clause-value : goal.returns-clause-value
returns-clause-value c =
    let fits = c.height.type_inv in
    let fits' = c.height-2.type_inv in
    let e = c.from.ensures in
    let e' = c.from-2.ensures in
    let h = c.height.ensures in
    let h' = c.height-2.ensures in
    let one : to_z w128 (of_z w128 c.from.result) ≡ c.height.result = omega (arith, ints, fits, e) in
    let other : to_z w128 (of_z w128 c.from-2.result) ≡ c.height-2.result = omega (arith, ints, fits', e') in
    omega (arith, ints, fits, fits', one, other, h, h')
