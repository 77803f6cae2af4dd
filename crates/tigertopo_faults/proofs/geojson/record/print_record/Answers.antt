use Rattle.std.proofs.Common.{refl}
use Rattle.tigertopo_faults.specs.Geojson.Records.{record_text}
use Rattle.tl_cert_output.proofs.PageLemmas.{both, as_text}
use Rattle.tigertopo_faults.proofs.geojson.record.print_record.Goals as goal

pub returns : goal.returns
unfolding record_text
returns g c =
    let page = g.met.P.Page.adding in
    as_text page (both page (both page (both page (both page (both page (both page c.add.ensures c.print_line.ensures) c.add-2.ensures) c.add-3.ensures) c.add-4.ensures) c.print_ends.ensures) c.add-5.ensures) (rw c.type_of.ensures refl)
