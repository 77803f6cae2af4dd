use Rattle.tl_cert_output.proofs.PageLemmas.{both}
use Rattle.tigertopo_faults.proofs.geojson.record.print_unknown.Goals as goal

pub returns : goal.returns
returns g c =
    let page = g.met.P.Page.adding in
    both page c.add.ensures c.number.ensures
