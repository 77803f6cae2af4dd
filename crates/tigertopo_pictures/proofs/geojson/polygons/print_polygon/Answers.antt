use Rattle.std.proofs.Common.{refl}
use Rattle.tigertopo_pictures.specs.Geojson.Features.{polygon_text}
use Rattle.tl_cert_output.proofs.PageLemmas.{both, as_text}
use Rattle.tigertopo_pictures.proofs.geojson.polygons.print_polygon.Goals as goal

pub returns : goal.returns
unfolding polygon_text
returns g c =
    let page = g.met.P.Page.adding in
    let lands = c.print_separated.ensures _ (c.requires.links.each c.args.number c.requires.number) in
    as_text page (both page (both page (both page (both page (both page (both page (both page (both page c.add.ensures c.print_position.ensures) c.add-2.ensures) c.print_key_members.ensures) c.add-3.ensures) lands) c.add-4.ensures) c.print_file.ensures) c.add-5.ensures)
    (rw (c.polygon-polygon.ensures, c.requires.lands) refl)
