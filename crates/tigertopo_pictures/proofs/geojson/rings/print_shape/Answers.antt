use Rattle.std.proofs.Common.{arith, ap, ◌∙◌}
use Rattle.tigertopo_pictures.specs.Geojson.Rings.{shape_opening, shape_closing}
use Rattle.tl_cert_output.proofs.PageLemmas.{both, as_text}
use Rattle.tigertopo_pictures.proofs.geojson.rings.print_shape.Goals as goal

pub returns : goal.returns
returns g c ns goes =
    let page = g.met.P.Page.adding in
    let one = c.has_one-is_one.ensures ns goes in
    both page (both page (as_text page c.add.ensures (c.opening.ensures ∙ ap shape_opening one)) (c.print_separated.ensures ns goes)) (as_text page c.add-2.ensures (c.closing.ensures ∙ ap shape_closing one))

pub print_separated-requires : goal.print_separated-requires
print_separated-requires g c = record {
  group = c.requires.polygon;
  has = λ n within. (c.requires.walks, c.requires.holes, omega (arith, within, c.requires.beside));
}
