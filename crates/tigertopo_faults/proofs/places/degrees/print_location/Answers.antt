use Rattle.std.proofs.Common.{rules}
use Rattle.tigertopo_faults.specs.Places.Degrees.{decimals_of, degrees_text, location_text}
use Rattle.tl_cert_output.proofs.PageLemmas.{both}
use Rattle.tigertopo_faults.proofs.places.degrees.print_location.Goals as goal

pub returns : goal.returns
unfolding location_text
returns g c =
    let page = g.met.P.Page.adding in
    let x : g.P.Page.adds _ _ (degrees_text (decimals_of c.args.at) c.args.at.x c.args.at.d) = search rules in
    let y : g.P.Page.adds _ _ (degrees_text (decimals_of c.args.at) c.args.at.y c.args.at.d) = search rules in
    both page (both page x c.add.ensures) y
