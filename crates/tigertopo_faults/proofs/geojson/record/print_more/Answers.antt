use Rattle.std.proofs.Common.{map, string_bytes}
use Rattle.tl_cert_output.proofs.PageLemmas.{both, as_text}
use Rattle.tigertopo_faults.specs.Geojson.Records.{record_text}
use Rattle.tigertopo_faults.proofs.GeojsonLemmas.ListLemmas.{more_next}
use Rattle.tigertopo_faults.proofs.geojson.record.print_more.Goals as goal

pub loop-line-preserved : goal.loop-line-preserved
loop-line-preserved g c =
    let page = g.met.P.Page.adding in
    as_text page (both page (both page c.loop-line.invariant c.add.ensures) c.print_record.ensures)
    (more_next (record_text (map string_bytes c.args.names.now) c.args.counts.now) c.args.lines.now c.loop-line.line-index _ c.loop-line-test.true)
