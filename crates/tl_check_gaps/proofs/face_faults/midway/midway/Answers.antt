use Rattle.std.proofs.Common.{◌≡◌, to_z, of_z, w32, refl, arith}
use Rattle.std.specs.Int.{w128}
use Rattle.std.proofs.lemmas.Int.{ints}
use Rattle.tl_check_planar.specs.ByHeight.Heights.{height, widest}
use Rattle.tl_check_gaps.proofs.FaceFaults.Places.{midway_found, risen_found}
use Rattle.tl_check_gaps.proofs.face_faults.midway.midway.Goals as goal

pub invariant_of-result : goal.invariant_of-result
invariant_of-result c =
    let up = c.ends_by_height.ensures.rising in
    let fits = c.twice-rise.type_inv in
    let fits' = c.way_up.type_inv in
    let v = c.twice-rise.ensures.value in
    let w = c.way_up.ensures.value in
    record { above_zero = omega (arith, ints, up, fits, fits', v, w) }

pub returns : goal.returns
returns c =
    let low = c.ends_by_height.result.0 in
    let high = c.ends_by_height.result.1 in
    let points = c.ends_by_height.type_inv in
    let fits_rise = c.twice-rise.type_inv in
    let fits_up = c.way_up.type_inv in
    let fits_risen = c.next-risen.type_inv in
    let fits_twice = c.twice.type_inv in
    let fits_over = c.way_up-2.type_inv in
    let rise_is = c.twice-rise.ensures.value in
    let up_is = c.way_up.ensures.value in
    let risen_is = c.next-risen.ensures.value in
    let twice_is = c.twice.ensures.value in
    let over_is = c.way_up-2.ensures.value in
    let fits_x = c.coordinate.type_inv in
    let fits_y = c.coordinate-2.type_inv in
    let low_x : to_z w32 (of_z w32 low.x) ≡ low.x = omega (arith, ints, points) in
    let low_y : to_z w32 (of_z w32 low.y) ≡ low.y = omega (arith, ints, points) in
    let high_x : to_z w32 (of_z w32 high.x) ≡ high.x = omega (arith, ints, points) in
    let high_y : to_z w32 (of_z w32 high.y) ≡ high.y = omega (arith, ints, points) in
    let x : to_z w128 (of_z w128 c.coordinate.result) ≡ c.coordinate.result = omega (arith, ints, fits_x) in
    let y : to_z w128 (of_z w128 c.coordinate-2.result) ≡ c.coordinate-2.result = omega (arith, ints, fits_y) in
    let over : to_z w128 (of_z w128 c.way_up-2.result) ≡ c.way_up-2.result = omega (arith, ints, fits_over) in
    let twice : to_z w128 (of_z w128 c.twice.result) ≡ c.twice.result = omega (arith, ints, fits_twice) in
    let risen : to_z w128 (of_z w128 c.next-risen.result) ≡ c.next-risen.result = omega (arith, ints, fits_risen) in
    midway_found (height widest c.args.at) c.args.segment low high c.ends_by_height.ensures.low c.ends_by_height.ensures.high _
    (to_z w128 (of_z w128 c.twice-rise.result)) (to_z w128 (of_z w128 c.next-risen.result))
    (omega (arith, ints, fits_rise, fits_up, rise_is, up_is))
    (risen_found _ _ _ (height widest c.args.at) (height widest low) _ _ _ risen risen_is twice twice_is over over_is)
    refl (cc (x, low_x, high_x, c.coordinate.ensures)) (cc (y, low_y, high_y, c.coordinate-2.ensures))
