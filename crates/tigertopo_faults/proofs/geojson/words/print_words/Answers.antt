use Rattle.std.proofs.Common.{refl, ap, ◌∙◌}
use Rattle.tl_map_rules.specs.Rows.{Row}
use Rattle.tl_check_verdict.specs.declared.rows.About.{About}
use Rattle.tigertopo_faults.specs.Geojson.Texts.{words_text}
use Rattle.tl_cert_output.proofs.PageLemmas.{both, as_text}
use Rattle.tigertopo_faults.proofs.geojson.words.print_words.Goals as goal

pub returns : goal.returns
unfolding words_text
returns g c =
    let page = g.met.P.Page.adding in
    let code = c.as_bytes.ensures.value ∙ ap (λ (r : Row About). r.0) c.row-says.ensures in
    let name = c.as_bytes-2.ensures.value ∙ ap (λ (r : Row About). r.1) c.row-says.ensures in
    as_text page (both page (both page (both page (both page (both page c.add.ensures c.print_string.ensures) c.add-2.ensures) c.print_string-2.ensures) c.add-3.ensures) c.print_quoted.ensures) (rw (code, name) refl)
