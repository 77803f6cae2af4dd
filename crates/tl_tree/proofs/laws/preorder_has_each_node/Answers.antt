use Rattle.tl_tree.proofs.Whole.{whole}
use Rattle.tl_tree.proofs.laws.preorder_has_each_node.Goals as goal

pub returns : goal.returns
returns c = whole c.args.nodes.now
