use Rattle.std.proofs.Common.{ap, map, string_bytes}
use Rattle.std.specs.Prelude.{option_copied}
use Rattle.tl_map_rules.specs.Rows.{Row}
use Rattle.tl_check_verdict.specs.declared.rows.About.{About}
use Rattle.tl_cert_output.proofs.PageLemmas.{both, as_text}
use Rattle.tigertopo_faults.specs.Geojson.Records.{records_text, spoken_lines}
use Rattle.tigertopo_faults.specs.Records.Keeping.{held}
use Rattle.tigertopo_faults.specs.Records.SpokenOf.{chains_of}
use Rattle.tigertopo_faults.specs.Geojson.Texts.{fault_text, names_text}
use Rattle.tigertopo_faults.proofs.geojson.fault.print_fault.Goals as goal

pub returns : goal.returns
unfolding fault_text
returns g c =
    let page = g.met.P.Page.adding in
    let names = as_text page c.print_names.ensures (ap (λ (r : Row About). names_text (chains_of (option_copied c.args.drawn)) r.2) c.row.ensures) in
    let spoken = as_text page c.print_spoken.ensures (ap (λ (r : Row About). records_text (map string_bytes c.args.names.now) c.args.counts.now
    (spoken_lines (chains_of (option_copied c.args.drawn)) (held c.args.lines.now) r.2)) c.row.ensures) in
    both page (both page (both page (both page (both page (both page (both page (both page (both page c.add.ensures c.print_geometry.ensures) c.add-2.ensures) c.print_words.ensures) c.add-3.ensures) c.print_exact.ensures) c.add-4.ensures) names) spoken) c.add-5.ensures
