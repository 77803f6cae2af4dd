use Rattle.std.proofs.Common.{inl, inr}
use Rattle.tl_cert_output.proofs.PageLemmas.{both}
use Rattle.tigertopo_program.proofs.lists.skipping.print_skipped.Goals as goal

pub returns-in-Lines : goal.returns-in-Lines
returns-in-Lines g c =
    let page = g.met.P.Page.adding in
    let line = both page (both page c.add.ensures c.number.ensures) c.add-in-Lines.ensures in
    elim c.in-Lines.is [ inl is ↦ rw is line | inr is ↦ rw is line ]
