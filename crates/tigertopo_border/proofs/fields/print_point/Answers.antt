use Rattle.std.proofs.Common.{rules}
use Rattle.tigertopo_border.specs.Spelling.{coordinate_field}
use Rattle.tl_cert_output.proofs.PageLemmas.{both}
use Rattle.tigertopo_border.proofs.fields.print_point.Goals as goal

pub returns : goal.returns
returns g c =
    let page = g.met.P.Page.adding in
    let x : g.P.Page.adds c.args.page.now c.print_coordinate.new.page (coordinate_field 9 c.args.point.x) = search rules in
    let y : g.P.Page.adds c.print_coordinate.new.page c.print_coordinate-2.new.page (coordinate_field 8 c.args.point.y) = search rules in
    both page x y
