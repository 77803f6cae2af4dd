use Rattle.std.proofs.lemmas.Bool.{ne_eqb}
use Rattle.tl_cert_output.proofs.PageLemmas.{both}
use Rattle.tigertopo_faults.proofs.geojson.text.print_closing.Goals as goal

pub returns-else-touched-eq0 : goal.returns-else-touched-eq0
returns-else-touched-eq0 g c =
    let page = g.met.P.Page.adding in
    let some = ne_eqb c.args.touched 0 c.if-touched-eq0.false in
    rw some (both page (both page c.add-else-touched-eq0.ensures c.number.ensures) c.add-else-touched-eq0-2.ensures)
