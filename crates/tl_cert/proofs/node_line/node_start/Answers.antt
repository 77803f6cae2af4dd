use Rattle.tl_cert.proofs.NodeLineLemmas.{leaf_parsed}
use Rattle.tl_cert.proofs.node_line.node_start.Goals as goal

pub returns : goal.returns
returns c = leaf_parsed c.args.version c.args.line.now c.in-Some-behind.others.now c.leaf_start.result c.in_default.ensures c.in-Some-behind.ensures c.leaf_start.ensures
