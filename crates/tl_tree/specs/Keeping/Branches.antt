-- The trees that boxed nodes are.
use Rattle.tl_tree.specs.declared.branch.Branch.{Branch}
use Rattle.tl_tree.specs.declared.branch.Branch.TheVariants.{End, Leaf', Inner'}
use Rattle.tl_tree_index.specs.Trees.{Forest, none, leaf, inner}

-- the trees, without the boxes
abbrev pub forest_of : Branch → Forest
forest_of End = none
forest_of (Leaf' r xs p others) = leaf r xs.items (forest_of others)
forest_of (Inner' r p children q others) = inner r (forest_of children) (forest_of others)
