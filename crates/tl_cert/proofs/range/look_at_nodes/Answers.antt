use Rattle.tl_cert.specs.Certificates.{IsNodeInRange}
use Rattle.tl_cert.proofs.Lists.{one_more}
use Rattle.tl_cert.proofs.range.look_at_nodes.Goals as goal

pub loop-node-preserved : goal.loop-node-preserved
loop-node-preserved c = one_more IsNodeInRange c.args.nodes.now c.loop-node.node-index c.node-item.result c.loop-node-test.true c.node-item.is c.look_at_node.ensures c.loop-node.invariant
