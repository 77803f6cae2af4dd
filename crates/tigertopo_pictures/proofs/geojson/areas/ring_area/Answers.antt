use Rattle.std.proofs.Common.{◌≡◌, ◌≤◌, ◌+◌, ◌*◌, ◌^◌, ◌∙◌, arith, add-one, refl, to_z-of_z, unsigned_abs}
use Rattle.std.specs.Int.{w128}
use Rattle.std.specs.Prelude.{slice_index}
use Rattle.std.proofs.lemmas.Int.{fits_signed_from_abs}
use Rattle.tigertopo_pictures.specs.Geojson.Areas.{sum_below, dart_sum}
use Rattle.tigertopo_pictures.proofs.geojson.areas.ring_area.Goals as goal

pub loop-dart-preserved : goal.loop-dart-preserved
loop-dart-preserved c =
    let one = to_z-of_z (fits_signed_from_abs w128 c.dart_sum.result (omega (arith, c.dart_sum.ensures.bound))) in
    let bound : unsigned_abs c.plus-sum.result ≤ (c.loop-dart.dart-index + 1) * 2 ^ 89 =
    omega (arith, (rw one at c.plus-sum.ensures.bound), c.dart_sum.ensures.bound, c.loop-dart.invariant.bound) in
    let back = to_z-of_z (fits_signed_from_abs w128 c.plus-sum.result (omega (arith, bound, c.requires.few, c.loop-dart-test.true))) in
    let sum : c.plus-sum.result ≡ sum_below (λ k. dart_sum c.args.map.now.chains (slice_index c.args.walk.now k)) (c.loop-dart.dart-index + 1) =
    c.plus-sum.ensures.value ∙ (rw (one, c.dart_sum.ensures.value, c.loop-dart.invariant.sum, add-one) refl) in
    record {
      sum = rw back sum;
      bound = rw back bound;
    }
