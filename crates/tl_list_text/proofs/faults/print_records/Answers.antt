use Rattle.std.proofs.Common.{◌∙◌}
use Rattle.tl_cert_output.proofs.PageLemmas.{both, as_text}
use Rattle.tl_list_text.proofs.faults.print_records.Goals as goal

pub returns-in-Tlid : goal.returns-in-Tlid
returns-in-Tlid g c =
    let page = g.met.P.Page.adding in
    rw c.in-Tlid.is (both page c.add.ensures c.number.ensures)

pub returns-in-Polygon : goal.returns-in-Polygon
returns-in-Polygon g c =
    let page = g.met.P.Page.adding in
    rw c.in-Polygon.is (both page c.add-in-Polygon.ensures c.print_key.ensures)

pub returns-in-TlidPolygon : goal.returns-in-TlidPolygon
returns-in-TlidPolygon g c =
    let page = g.met.P.Page.adding in
    rw c.in-TlidPolygon.is (both page (both page (both page c.add-in-TlidPolygon.ensures c.number-in-TlidPolygon.ensures) c.add-in-TlidPolygon-2.ensures) c.print_key-in-TlidPolygon.ensures)

pub returns-in-Land : goal.returns-in-Land
returns-in-Land g c =
    let page = g.met.P.Page.adding in
    rw c.in-Land.is (both page c.add-in-Land.ensures c.number-in-Land.ensures)

pub returns-in-PolygonLand : goal.returns-in-PolygonLand
returns-in-PolygonLand g c =
    let page = g.met.P.Page.adding in
    rw c.in-PolygonLand.is (both page (both page (both page c.add-in-PolygonLand.ensures c.print_key-in-PolygonLand.ensures) c.add-in-PolygonLand-2.ensures) c.number-in-PolygonLand.ensures)

pub returns-in-Limit : goal.returns-in-Limit
returns-in-Limit g c =
    let page = g.met.P.Page.adding in
    rw c.in-Limit.is (both page c.add-in-Limit.ensures (as_text page c.add-in-Limit-2.ensures (c.as_bytes.ensures.value ∙ c.word.ensures)))

pub returns-in-Types : goal.returns-in-Types
returns-in-Types g c =
    let page = g.met.P.Page.adding in
    rw c.in-Types.is (both page c.add-in-Types.ensures (as_text page c.add-in-Types-2.ensures (c.as_bytes-in-Types.ensures.value ∙ c.types.ensures.types)))
