use Rattle.tl_cert_output.proofs.PageLemmas.{both, as_text}
use Rattle.tigertopo_border.proofs.PrintLemmas.{chain_parts}
use Rattle.tigertopo_border.proofs.chain.print_chain.Goals as goal

pub returns : goal.returns
returns g c =
    let page = g.met.P.Page.adding in
    let chain = c.args.chain.now in
    as_text page (both page (both page c.print_chain_line.ensures c.print_shapes.ensures) c.print_sides_line.ensures)
    (rw (c.side_key.ensures, c.side_key-2.ensures) (chain_parts c.args.name chain.tlid chain.points.now chain.left chain.right))
