use Rattle.std.proofs.Common.{◌≡◌, length, map, ap, ◌∙◌, arith, below_more, length-append, to_z-of_z, ◌∷◌, []}
use Rattle.std.specs.Int.{w128}
use Rattle.std.proofs.lemmas.Int.{fits_signed_from_abs}
use Rattle.std.proofs.lemmas.Result.{err_from_is_err_and}
use Rattle.tl_check_sides.specs.Lists.{list_at}
use Rattle.tigertopo_pictures.specs.Geojson.Holes.{ring_area}
use Rattle.tigertopo_pictures.proofs.GeojsonLemmas.AreaLemmas.{one_area_more}
use Rattle.tigertopo_pictures.proofs.WalkLemmas.{many_lists}
use Rattle.tigertopo_pictures.proofs.geojson.areas.ring_areas.Goals as goal

pub walk_at-requires : goal.walk_at-requires
walk_at-requires c = c.loop-number-test.true

pub ring_area-requires : goal.ring_area-requires
ring_area-requires c = record {
  few = omega (arith, c.walk_at.ensures.few c.args.map.now.chains c.requires, c.darts-darts.ensures, c.darts-darts.type_inv);
  darts = c.walk_at.ensures.darts c.args.map.now.chains c.requires;
}

pub loop-number-init : goal.loop-number-init
loop-number-init c = record { long = ap length c.new-areas.ensures.items; each = λ n less. absurd (omega arith); small = λ n less. absurd (omega arith) }

pub loop-number-preserved : goal.loop-number-preserved
loop-number-preserved c =
    let chains = c.args.map.now.chains in
    let lists = map (λ w. w.items) c.args.walks.now in
    let n = c.loop-number.number in
    let areas = c.loop-number.areas.items in
    let before = c.loop-number.invariant in
    let value : c.ring_area.result ≡ ring_area chains (list_at lists n) = c.ring_area.ensures.value ∙ ap (ring_area chains) c.walk_at.ensures.walk in
    let back = to_z-of_z {z = c.ring_area.result} (fits_signed_from_abs w128 _ (omega (arith, c.ring_area.ensures.bound))) in
    record {
      long = rw (c.in_ok-push.ensures.items, back) (omega (arith, length-append areas (c.ring_area.result ∷ []), before.long));
      each = rw (c.in_ok-push.ensures.items, back) (one_area_more areas n c.ring_area.result (λ k. ring_area chains (list_at lists k)) before.long before.each value);
      small = below_more _ n before.small (let bound = rw value at c.ring_area.ensures.bound in omega (arith, bound));
    }

pub returns : goal.returns
returns c =
    let before = c.loop-number.invariant in
    let all : c.loop-number.number ≡ length (map (λ w. w.items) c.args.walks.now) = omega (arith, c.loop-number.auto.number-end, c.loop-number-test.false, many_lists c.args.walks.now) in
    record {
      long = before.long ∙ all;
      each = λ n within. before.each n (omega (arith, within, all));
      small = λ n within. before.small n (omega (arith, within, all));
    }

pub returns-in_err-push : goal.returns-in_err-push
returns-in_err-push c = let p = err_from_is_err_and c.from_residual.result c.from_residual.ensures.1 in rw p.1 tt
