use Rattle.std.proofs.Common.{rules}
use Rattle.tigertopo_faults.specs.Places.Degrees.{degrees_text}
use Rattle.tigertopo_faults.specs.Geojson.Places.{position_text}
use Rattle.tl_cert_output.proofs.PageLemmas.{both}
use Rattle.tigertopo_faults.proofs.geojson.place.print_position.Goals as goal

pub returns : goal.returns
unfolding position_text
returns g c =
    let page = g.met.P.Page.adding in
    let x : g.P.Page.adds _ _ (degrees_text 12 c.args.at.x c.args.at.d) = search rules in
    let y : g.P.Page.adds _ _ (degrees_text 12 c.args.at.y c.args.at.d) = search rules in
    both page (both page (both page (both page c.add.ensures x) c.add-2.ensures) y) c.add-3.ensures
