use Rattle.tigertopo_words.specs.Json.{bytes_text}
use Rattle.tl_cert_output.proofs.PageLemmas.{both}
use Rattle.tigertopo_faults.proofs.shown.json.print_byte_string.Goals as goal

pub returns : goal.returns
unfolding bytes_text
returns g c =
    let page = g.met.P.Page.adding in
    both page (both page c.add.ensures c.print_characters.ensures) c.add-2.ensures
