use Rattle.tl_cert_output.proofs.PageLemmas.{both}
use Rattle.tigertopo_pictures.specs.Geojson.Strings.{key_members}
use Rattle.tigertopo_pictures.proofs.geojson.strings.print_key_members.Goals as goal

pub returns : goal.returns
unfolding key_members
returns g c =
    let page = g.met.P.Page.adding in
    both page (both page (both page (both page (both page c.add.ensures c.print_key.ensures) c.add-2.ensures) c.print_quoted.ensures) c.add-3.ensures) c.number.ensures
