use Rattle.std.proofs.Common.{decimal}
use Rattle.tl_cert_output.proofs.PageLemmas.{both, as_text}
use Rattle.tigertopo_faults.proofs.GeojsonLemmas.ListLemmas.{two_separated}
use Rattle.tigertopo_faults.proofs.geojson.fault.print_numbers.Goals as goal

pub returns-in-Some-Some : goal.returns-in-Some-Some
returns-in-Some-Some g c =
    let page = g.met.P.Page.adding in
    as_text page (both page (both page c.number.ensures c.add.ensures) c.number-in-Some-Some.ensures) (two_separated decimal c.args.numbers _ _ c.in-Some-Some.is-0 c.in-Some-Some.is-1)
