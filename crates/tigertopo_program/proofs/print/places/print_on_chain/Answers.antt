use Rattle.tl_cert_output.proofs.PageLemmas.{both, as_text}
use Rattle.tigertopo_program.proofs.PlaceLemmas.{on_text-of}
use Rattle.tigertopo_program.proofs.print.places.print_on_chain.Goals as goal

pub returns : goal.returns
returns g c =
    let page = g.met.P.Page.adding in
    as_text page (both page (both page c.add.ensures c.number.ensures) c.add-2.ensures) (on_text-of c.args.map.now.chains c.args.chain _ _ _ _ c.chain.ensures.chain)
