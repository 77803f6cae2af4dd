use Rattle.tl_cert_output.proofs.PageLemmas.{both}
use Rattle.tigertopo_words.specs.Json.{string_text}
use Rattle.tigertopo_pictures.proofs.geojson.strings.print_quoted.Goals as goal

pub returns : goal.returns
unfolding string_text
returns g c =
    let page = g.met.P.Page.adding in
    both page (both page c.add.ensures c.print_spelt.ensures) c.add-2.ensures
