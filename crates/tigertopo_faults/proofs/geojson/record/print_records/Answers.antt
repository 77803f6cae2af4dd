use Rattle.tigertopo_faults.specs.Geojson.Records.{records_text}
use Rattle.tl_cert_output.proofs.PageLemmas.{both}
use Rattle.tigertopo_faults.proofs.geojson.record.print_records.Goals as goal

pub returns : goal.returns
unfolding records_text
returns g c =
    let page = g.met.P.Page.adding in
    both page (both page c.add.ensures c.print_both.ensures) c.add-2.ensures
