use Rattle.std.proofs.Common.{◌<◌, length, map, string_bytes, arith}
use Rattle.std.proofs.lemmas.Bool.Decides.{nat_tests}
use Rattle.tl_cert_output.proofs.PageLemmas.{both, as_text}
use Rattle.tigertopo_faults.specs.Geojson.Records.{record_text}
use Rattle.tigertopo_faults.proofs.GeojsonLemmas.ListLemmas.{separated_both}
use Rattle.tigertopo_faults.proofs.geojson.record.print_both.Goals as goal

pub returns-else-is_empty : goal.returns-else-is_empty
returns-else-is_empty g c =
    let page = g.met.P.Page.adding in
    let some : 0 < length c.args.first.now = grind (arith, nat_tests) in
    as_text page (both page c.print_some-else-is_empty.ensures c.print_more.ensures)
    (separated_both (record_text (map string_bytes c.args.names.now) c.args.counts.now) c.args.first.now c.args.second.now some)
