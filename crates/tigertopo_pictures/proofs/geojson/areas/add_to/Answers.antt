use Rattle.std.proofs.Common.{◌≡◌, ◌<◌, ◌≤◌, length, get_or, arith, refl, ◌∙◌, pos, to_z-of_z}
use Rattle.std.specs.Prelude.{vec_len}
use Rattle.std.specs.Int.{w128}
use Rattle.std.proofs.lemmas.Int.{fits_signed_from_abs}
use Rattle.std.proofs.lemmas.List.{get_or_default}
use Rattle.tigertopo_pictures.proofs.GeojsonLemmas.AreaLemmas.{added, none_added}
use Rattle.tigertopo_pictures.proofs.geojson.areas.add_to.Goals as goal

pub plus-requires : goal.plus-requires
plus-requires c =
    let areas = c.args.areas.now in
    let q = c.in-Polygon.polygon in
    let within : q < vec_len areas = omega (arith, c.if-polygon-len.true, c.len.ensures) in
    let inside : q < length areas.items = omega (arith, within, areas.ok.0) in
    let same : c.index.result.now ≡ get_or areas.items q (pos 0) = c.index.ensures ∙ get_or_default areas.items q c.index.result.now (pos 0) inside in
    let few = rw (← same) at (c.requires q within) in
    let area = to_z-of_z {z = c.index.result.now} (fits_signed_from_abs w128 _ (omega (arith, few))) in
    let sum = to_z-of_z c.ranges.sum in
    rw (area, sum) few

pub returns-in-Polygon : goal.returns-in-Polygon
returns-in-Polygon c =
    let areas = c.args.areas.now in
    let q = c.in-Polygon.polygon in
    let within : q < vec_len areas = omega (arith, c.if-polygon-len.true, c.len.ensures) in
    let inside : q < length areas.items = omega (arith, within, areas.ok.0) in
    let same : c.index.result.now ≡ get_or areas.items q (pos 0) = c.index.ensures ∙ get_or_default areas.items q c.index.result.now (pos 0) inside in
    let few = rw (← same) at (c.requires q within) in
    let area = to_z-of_z {z = c.index.result.now} (fits_signed_from_abs w128 _ (omega (arith, few))) in
    let sum = to_z-of_z c.ranges.sum in
    let bound = rw (area, sum) at c.plus.ensures.bound in
    let back = to_z-of_z {z = c.plus.result} (fits_signed_from_abs w128 _ (omega (arith, few, bound))) in
    record {
      len = refl;
      value = λ p there. rw (c.in-Polygon.is, back, c.plus.ensures.value, area, sum, same) (added areas.items q p c.args.sum inside);
    }

pub returns-else-polygon-len : goal.returns-else-polygon-len
returns-else-polygon-len c =
    let areas = c.args.areas.now in
    let q = c.in-Polygon.polygon in
    let beyond : length areas.items ≤ q = omega (arith, c.if-polygon-len.false, c.len.ensures, areas.ok.0) in
    record {
      len = refl;
      value = λ p there. rw c.in-Polygon.is (none_added areas.items q p c.args.sum beyond (omega (arith, there, areas.ok.0)));
    }
