use Rattle.std.proofs.Common.{◌≡◌, length, eqb-true, arith}
use Rattle.std.specs.Prelude.{nat_eq}
use Rattle.std.proofs.lemmas.List.{length-map}
use Rattle.std.specs.Cmp.{nat_eq_equiv}
use Rattle.tl_geom.specs.declared.point.Point.{Point}
use Rattle.tl_record_key.specs.declared.key.PolyKey.{PolyKey}
use Rattle.std.proofs.lemmas.Result.{err_from_is_err_and}
use Rattle.indexmap.specs.IndexMap.{keys}
use Rattle.tl_map_rules.specs.MapOf.{same_key}
use Rattle.tl_map.proofs.IndexLemmas.{numbers_keys, key_laws}
use Rattle.tl_map.proofs.LinkedLemmas.{links_inside}
use Rattle.tl_map.proofs.landmarks.link_landmarks.Goals as goal
use Rattle.tl_map_rules.proofs.KeyLemmas.{same_key-is}

pub resolve_links-requires-clause-polygons : goal.resolve_links-requires-clause-polygons
resolve_links-requires-clause-polygons c = c.requires.polygons

pub returns-in_err-made : goal.returns-in_err-made
returns-in_err-made c =
    let p = err_from_is_err_and c.from_residual.result c.from_residual.ensures.1 in
    let index = numbers_keys same_key key_laws same_key-is c.args.polygons.now c.requires.keys in
    let lands = numbers_keys nat_eq nat_eq_equiv eqb-true c.args.landmarks.now c.requires.lands in
    rw (p.1, p.2) (c.in_err-made.ensures.stops (keys c.args.polygons.now) (keys c.args.landmarks.now) index lands)

pub returns-in_err-sort_links : goal.returns-in_err-sort_links
returns-in_err-sort_links c =
    let p = err_from_is_err_and c.from_residual-in_err-sort_links.result c.from_residual-in_err-sort_links.ensures.1 in
    rw (p.1, p.2) tt

pub list_linked-requires-clause-rising : goal.list_linked-requires-clause-rising
list_linked-requires-clause-rising c = rw c.deref.ensures.value c.in_ok-sort_links.ensures.rising

pub list_linked-requires-clause-inside : goal.list_linked-requires-clause-inside
list_linked-requires-clause-inside c =
    let index = numbers_keys same_key key_laws same_key-is c.args.polygons.now c.requires.keys in
    let lands = numbers_keys nat_eq nat_eq_equiv eqb-true c.args.landmarks.now c.requires.lands in
    let long : length (keys c.args.polygons.now) ≡ c.len-2.result = omega (arith, c.len-2.ensures.len, length-map c.args.polygons.now.entries (λ (e : PolyKey × Point). e.0)) in
    rw c.deref.ensures.value (links_inside (keys c.args.polygons.now) (keys c.args.landmarks.now) c.args.links.now c.in_ok-made.made.items c.sort_links.new.links.items c.len-2.result long
    (c.in_ok-made.ensures.ok (keys c.args.polygons.now) (keys c.args.landmarks.now) index lands) c.in_ok-sort_links.ensures)

pub returns-in_err-rows : goal.returns-in_err-rows
returns-in_err-rows c =
    let p = err_from_is_err_and c.from_residual-in_err-rows.result c.from_residual-in_err-rows.ensures.1 in
    rw (p.1, p.2) tt

pub returns : goal.returns
returns c =
    let index = numbers_keys same_key key_laws same_key-is c.args.polygons.now c.requires.keys in
    let lands = numbers_keys nat_eq nat_eq_equiv eqb-true c.args.landmarks.now c.requires.lands in
    record {
      made = c.in_ok-made.made.items;
      sorted = c.sort_links.new.links.items;
      all = c.in_ok-made.ensures.ok (keys c.args.polygons.now) (keys c.args.landmarks.now) index lands;
      by_landmark = c.in_ok-sort_links.ensures;
      listed = rw (c.deref.ensures.value, c.len.ensures.len) at c.in_ok-rows.ensures;
    }
