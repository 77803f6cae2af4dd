use Rattle.std.proofs.Common.{ap, map, string_bytes}
use Rattle.std.specs.Prelude.{option_copied}
use Rattle.tl_map_rules.specs.Rows.{Row}
use Rattle.tl_check_verdict.specs.declared.rows.About.{About}
use Rattle.tl_cert_output.proofs.PageLemmas.{both, as_text}
use Rattle.tigertopo_faults.specs.Lines.Texts.{spoken_text}
use Rattle.tigertopo_faults.specs.Records.Keeping.{held}
use Rattle.tigertopo_faults.specs.Records.SpokenOf.{chains_of}
use Rattle.tigertopo_faults.proofs.lines.text.print_placed.Goals as goal

pub returns : goal.returns
returns g c =
    let page = g.met.P.Page.adding in
    let spoken = as_text page c.print_spoken.ensures (ap (λ (r : Row About). spoken_text (map string_bytes c.args.names.now) c.args.counts.now
    (chains_of (option_copied c.args.drawn)) (held c.args.lines.now) c.args.at r.2) c.row.ensures) in
    both page c.print_fault.ensures spoken
