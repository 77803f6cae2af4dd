-- The tree that a boxed tree is.
use Rattle.tl_tree.specs.declared.box_tree.BoxTree.{BoxTree}
use Rattle.tl_tree.specs.Keeping.Branches.{forest_of}
use Rattle.tl_tree_index.specs.Trees.{Forest}

-- its nodes, without the boxes
abbrev pub unboxed : BoxTree → Forest
unboxed tree = forest_of tree.root
