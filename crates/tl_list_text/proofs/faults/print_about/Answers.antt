use Rattle.tl_cert_output.proofs.PageLemmas.{both}
use Rattle.tl_list_text.proofs.faults.print_about.Goals as goal

pub returns-in-PolygonAlone : goal.returns-in-PolygonAlone
returns-in-PolygonAlone g c = rw c.in-PolygonAlone.is (both g.met.P.Page.adding c.add.ensures c.print_key.ensures)

pub returns-in-PolygonTlid : goal.returns-in-PolygonTlid
returns-in-PolygonTlid g c =
    let page = g.met.P.Page.adding in
    rw c.in-PolygonTlid.is (both page (both page (both page c.add-in-PolygonTlid.ensures c.print_key-in-PolygonTlid.ensures) c.add-in-PolygonTlid-2.ensures) c.number.ensures)

pub returns-in-PolygonOther : goal.returns-in-PolygonOther
returns-in-PolygonOther g c =
    let page = g.met.P.Page.adding in
    rw c.in-PolygonOther.is (both page (both page (both page c.add-in-PolygonOther.ensures c.print_key-in-PolygonOther.ensures) c.add-in-PolygonOther-2.ensures) c.print_key-in-PolygonOther-2.ensures)
