use Rattle.tigertopo_pictures.specs.Geojson.Strings.{key_string}
use Rattle.tl_cert_output.proofs.PageLemmas.{both, as_text}
use Rattle.tigertopo_faults.proofs.GeojsonLemmas.ListLemmas.{two_separated}
use Rattle.tigertopo_faults.proofs.geojson.fault.print_keys.Goals as goal

pub returns-in-Some-Some : goal.returns-in-Some-Some
returns-in-Some-Some g c =
    let page = g.met.P.Page.adding in
    as_text page (both page (both page c.print_key.ensures c.add.ensures) c.print_key-in-Some-Some.ensures) (two_separated key_string c.args.keys _ _ c.in-Some-Some.is-0 c.in-Some-Some.is-1)
