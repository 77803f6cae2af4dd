use Rattle.std.proofs.Common.{◌≡◌, ◌-ℤ◌, to_z, of_z, arith}
use Rattle.std.specs.Int.{w128}
use Rattle.std.proofs.lemmas.Int.{ints}
use Rattle.tl_check_gaps.proofs.face_faults.midway.coordinate.Goals as goal

pub returns : goal.returns
returns c =
    let fits = c.sum.type_inv in
    let fits_one = c.scaled.type_inv in
    let fits_other = c.scaled-2.type_inv in
    let fits_low = c.way.type_inv in
    let fits_way = c.way-2.type_inv in
    let sum : to_z w128 (of_z w128 c.sum.result) ≡ c.sum.result = omega (arith, ints, fits) in
    let one : to_z w128 (of_z w128 c.scaled.result) ≡ c.scaled.result = omega (arith, ints, fits_one) in
    let other : to_z w128 (of_z w128 c.scaled-2.result) ≡ c.scaled-2.result = omega (arith, ints, fits_other) in
    let rise : to_z w128 (of_z w128 c.args.rise) ≡ c.args.rise = omega (arith, ints) in
    let risen : to_z w128 (of_z w128 c.args.risen) ≡ c.args.risen = omega (arith, ints) in
    let low_is = c.way.ensures.value in
    let way_is = c.way-2.ensures.value in
    let low : to_z w128 (of_z w128 c.way.result) ≡ c.args.low = omega (arith, ints, fits_low, low_is) in
    let way : to_z w128 (of_z w128 c.way-2.result) ≡ c.args.high -ℤ c.args.low = omega (arith, ints, fits_way, way_is) in
    cc (c.sum.ensures, c.scaled.ensures.value, c.scaled-2.ensures.value)
