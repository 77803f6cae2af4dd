use Rattle.std.proofs.Common.{◌<◌, length, map, string_bytes, arith}
use Rattle.std.proofs.lemmas.Bool.Decides.{nat_tests}
use Rattle.tl_cert_output.proofs.PageLemmas.{both, as_text}
use Rattle.tigertopo_faults.specs.Geojson.Records.{record_text}
use Rattle.tigertopo_faults.proofs.GeojsonLemmas.ListLemmas.{separated_parts}
use Rattle.tigertopo_faults.proofs.geojson.record.print_some.Goals as goal

pub returns-then-not-is_empty : goal.returns-then-not-is_empty
returns-then-not-is_empty g c =
    let page = g.met.P.Page.adding in
    let some : 0 < length c.args.lines.now = grind (arith, nat_tests) in
    as_text page (both page c.print_record.ensures c.print_more.ensures) (separated_parts (record_text (map string_bytes c.args.names.now) c.args.counts.now) c.args.lines.now _ some)
