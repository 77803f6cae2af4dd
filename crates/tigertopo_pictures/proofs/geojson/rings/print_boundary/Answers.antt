use Rattle.std.proofs.Common.{arith, map, refl, to_z-of_z}
use Rattle.std.specs.Int.{w128}
use Rattle.std.proofs.lemmas.Int.{fits_signed_from_abs}
use Rattle.std.proofs.lemmas.List.{length-map}
use Rattle.tigertopo_pictures.specs.Geojson.Areas.{doubled_area}
use Rattle.tigertopo_pictures.specs.Geojson.Holes.{outer_polygon}
use Rattle.tigertopo_pictures.specs.Geojson.Rings.{boundary_text}
use Rattle.tl_cert_output.proofs.PageLemmas.{both, as_text}
use Rattle.tigertopo_pictures.proofs.WalkLemmas.{many_lists}
use Rattle.tigertopo_pictures.proofs.geojson.rings.print_boundary.Goals as goal

pub returns : goal.returns
unfolding boundary_text
returns g c =
    let page = g.met.P.Page.adding in
    let shape = c.print_shape.ensures _ (c.requires.outers.each c.args.number c.requires.number) in
    let area = c.requires.areas.each c.args.number c.requires.number in
    let back = to_z-of_z {z = doubled_area c.args.map.now.chains c.args.number} (fits_signed_from_abs w128 _ (c.requires.areas.small c.args.number c.requires.number)) in
    as_text page (both page (both page (both page (both page (both page (both page (both page (both page (both page c.add.ensures shape) c.add-2.ensures) c.print_key_members.ensures) c.add-3.ensures) c.print_half.ensures) c.add-4.ensures) c.print_metres.ensures) c.print_file.ensures) c.add-5.ensures)
    (rw (c.polygon-polygon.ensures, area, back) refl)

pub print_shape-requires : goal.print_shape-requires
print_shape-requires g c =
    let lists = map (λ w. w.items) c.args.walks.now in
    record {
      walks = c.requires.walks;
      holes = c.requires.holes;
      polygon = omega (arith, c.requires.outers.counted, c.requires.number);
      beside = omega (arith, c.requires.outers.items, length-map lists (outer_polygon c.args.map.now.chains), many_lists c.args.walks.now);
    }
