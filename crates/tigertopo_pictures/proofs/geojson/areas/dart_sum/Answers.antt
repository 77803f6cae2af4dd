use Rattle.std.proofs.Common.{◌≡◌, ◌≤◌, ◌+◌, ◌-◌, ◌*◌, ◌^◌, ◌/◌, ◌%◌, ◌∙◌, arith, to_z-of_z, unsigned_abs}
use Rattle.std.specs.Int.{w128}
use Rattle.std.specs.Prelude.{◌==◌}
use Rattle.std.proofs.lemmas.Int.{fits_signed_from_abs}
use Rattle.tl_map_county.specs.Darts.{directed}
use Rattle.tigertopo_pictures.specs.Geojson.Areas.{sum_below, step_cross_at}
use Rattle.tigertopo_pictures.proofs.GeojsonLemmas.AreaLemmas.{step_more, few_steps}
use Rattle.tigertopo_pictures.proofs.geojson.areas.dart_sum.Goals as goal

pub loop-place-preserved : goal.loop-place-preserved
loop-place-preserved c =
    let points = directed (c.args.dart % 2 == 0) c.chain.result.points.now in
    let few = few_steps c.args.map.now.chains (c.args.dart / 2) _ _ _ _ c.chain.ensures.chain (omega arith) in
    let step = to_z-of_z (fits_signed_from_abs w128 c.cross-step.result (omega (arith, c.cross-step.ensures.bound))) in
    let bound : unsigned_abs c.plus-sum.result ≤ c.loop-place.place * 2 ^ 65 =
    omega (arith, (rw step at c.plus-sum.ensures.bound), c.cross-step.ensures.bound, c.loop-place.invariant.bound, c.loop-place.invariant.some) in
    let back = to_z-of_z (fits_signed_from_abs w128 c.plus-sum.result
    (omega (arith, bound, few, c.segments-few.ensures.count, c.segments-few.ensures.few, c.loop-place-test.true))) in
    let sum : c.plus-sum.result ≡ sum_below (step_cross_at points) (c.loop-place.place + 1 - 1) =
    c.plus-sum.ensures.value ∙ (rw (step, c.cross-step.ensures.value, c.loop-place.invariant.sum)
    (step_more points c.loop-place.place _ _ c.loop-place.invariant.some c.point_at.ensures c.point_at-in-loop-place.ensures)) in
    record {
      some = omega arith;
      sum = rw back sum;
      bound = rw back (omega (arith, bound));
    }

pub returns-clause-bound : goal.returns-clause-bound
returns-clause-bound c =
    let few = few_steps c.args.map.now.chains (c.args.dart / 2) _ _ _ _ c.chain.ensures.chain (omega arith) in
    omega (arith, few, c.segments-few.ensures.count, c.segments-few.ensures.few, c.loop-place.invariant.bound, c.loop-place.auto.place-end, c.loop-place-test.false)
