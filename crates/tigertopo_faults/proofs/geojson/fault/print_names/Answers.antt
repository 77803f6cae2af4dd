use Rattle.std.proofs.Common.{refl}
use Rattle.tigertopo_faults.specs.Geojson.Texts.{names_text}
use Rattle.tl_cert_output.proofs.PageLemmas.{both, as_text}
use Rattle.tigertopo_faults.proofs.geojson.fault.print_names.Goals as goal

pub returns : goal.returns
unfolding names_text
returns g c =
    let page = g.met.P.Page.adding in
    as_text page (both page (both page (both page (both page (both page (both page c.add.ensures c.print_numbers.ensures) c.add-2.ensures) c.print_keys.ensures) c.add-3.ensures) c.print_number.ensures) c.add-4.ensures)
    (rw (c.tlids_of.ensures, c.keys_of.ensures, c.land_of.ensures) refl)
