use Rattle.tl_tree.proofs.flat_tree.FlatTree.check.Goals as goal

pub check_all-requires : goal.check_all-requires
check_all-requires g c = rw (c.root.ensures, c.lists.ensures.nodes) c.lists.ensures.numbered
