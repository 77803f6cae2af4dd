use Rattle.std.proofs.Common.{List, ◌++◌, ap, map, string_bytes}
use Rattle.std.specs.Prelude.{option_copied}
use Rattle.tigertopo_faults.specs.declared.records.line.RecordLine.{RecordLine}
use Rattle.tigertopo_faults.specs.Records.SpokenOf.{chains_of}
use Rattle.tigertopo_faults.specs.Records.Keeping.{held}
use Rattle.tigertopo_faults.specs.Geojson.Records.{records_text}
use Rattle.tl_cert_output.proofs.PageLemmas.{as_text}
use Rattle.tigertopo_faults.proofs.LinesLemmas.SpokenLemmas.{spoken_parts}
use Rattle.tigertopo_faults.proofs.geojson.fault.print_spoken.Goals as goal

pub returns : goal.returns
returns g c =
    let page = g.met.P.Page.adding in
    as_text page c.print_records-2.ensures
    (ap (λ (parts : List RecordLine × List RecordLine). records_text (map string_bytes c.args.names.now) c.args.counts.now (parts.0 ++ parts.1))
    (spoken_parts (chains_of (option_copied c.args.drawn)) (held c.args.lines.now) c.args.about.now c.subjects_about-first.result c.lines_for.result.now c.lines_for-2.result.now c.in_default.not-Meet
    c.subjects_about-first.ensures c.lines_for.ensures c.lines_for-2.ensures))
