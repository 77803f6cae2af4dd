use Rattle.std.proofs.Common.{sym, append-nil}
use Rattle.tl_cert_output.proofs.PageLemmas.{both, as_text}
use Rattle.tigertopo_pictures.proofs.geojson.landmarks.print_pointed.Goals as goal

pub returns-in-Some-clause-prints : goal.returns-in-Some-clause-prints
returns-in-Some-clause-prints g c =
    let page = g.met.P.Page.adding in
    as_text page (both page c.print_lead.ensures c.print_landmark.ensures) (rw c.in-Some.is (sym (append-nil _)))
