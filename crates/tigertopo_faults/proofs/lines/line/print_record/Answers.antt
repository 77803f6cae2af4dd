use Rattle.std.proofs.Common.{◌++◌, codes, decimal, sym, append_assoc}
use Rattle.tl_record_key.specs.KeyText.{key_text}
use Rattle.tl_cert_output.proofs.PageLemmas.{both, as_text}
use Rattle.tigertopo_faults.proofs.lines.line.print_record.Goals as goal

pub returns-in-PolyPoint : goal.returns-in-PolyPoint
returns-in-PolyPoint g c =
    let page = g.met.P.Page.adding in
    rw c.in-PolyPoint.is (both page c.add.ensures c.print_key.ensures)

pub returns-in-Landmark : goal.returns-in-Landmark
returns-in-Landmark g c =
    rw c.in-Landmark.is c.print_numbered-in-Landmark.ensures

pub returns-in-AreaLink : goal.returns-in-AreaLink
returns-in-AreaLink g c =
    let page = g.met.P.Page.adding in
    let front = codes ", type 8, polygon " ++ key_text c.in-AreaLink.key in
    let text = both page (both page c.add-in-AreaLink.ensures c.print_key-in-AreaLink.ensures) c.print_numbered-in-AreaLink.ensures in
    rw c.in-AreaLink.is (as_text page text (sym (append_assoc front (codes " land ") (decimal c.in-AreaLink.land))))
