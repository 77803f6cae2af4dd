use Rattle.tl_cert_output.proofs.PageLemmas.{both, as_text}
use Rattle.tl_cert.proofs.WriteLemmas.{parts_of}
use Rattle.tl_cert.proofs.write.print_cert.Goals as goal

pub write_head-requires : goal.write_head-requires
write_head-requires g c = c.version-version.ensures.known

pub returns : goal.returns
returns g c =
    let page = g.met.P.Page.adding in
    as_text page (both page (both page (both page (both page c.write_head.ensures c.write_tree.ensures) c.write_dart_lists.ensures) c.write_dart_lists-2.ensures) c.add.ensures)
    (parts_of c.args.certificate.now _ _ _ _ _ c.version-version.ensures.version c.counts.ensures c.tree.ensures.tree c.rounds.ensures.rounds c.walks.ensures.walks)
