use Rattle.std.proofs.Common.{sym, arith}
use Rattle.tl_cert_output.proofs.PageLemmas.{both, as_text}
use Rattle.tl_cert.proofs.WriteLemmas.{nodes_text, nodes_joins, text_next, text_all}
use Rattle.tl_cert.proofs.write.write_nodes.Goals as goal

pub loop-node-preserved : goal.loop-node-preserved
loop-node-preserved g c =
    let page = g.met.P.Page.adding in
    as_text page (both page c.loop-node.invariant c.write_node.ensures)
    (sym (text_next (nodes_text c.args.version) (nodes_joins c.args.version) c.args.nodes.now c.loop-node.node-index _ _ c.loop-node-test.true (sym c.node-item.is)))

pub returns : goal.returns
returns g c =
    let page = g.met.P.Page.adding in
    as_text page c.loop-node.invariant (text_all (nodes_text c.args.version) c.args.nodes.now c.loop-node.node-index (omega arith))
