use Rattle.std.proofs.Common.{[], ◌++◌, refl, arith}
use Rattle.tl_tree_index.specs.Trees.{leaf_items}
use Rattle.tl_tree.specs.Keeping.Listing.{listed_items}
use Rattle.tl_tree.specs.Keeping.Walking.{items_below}
use Rattle.tl_tree.proofs.Listing.{then-listed}
use Rattle.tl_tree.proofs.near.list_near.Goals as goal

pub list_all-requires-clause-fits : goal.list_all-requires-clause-fits
list_all-requires-clause-fits g c = omega (arith, c.in-Some.ensures.fits, c.in-Some.ensures.complete)

pub returns-in-Some : goal.returns-in-Some
returns-in-Some g c =
    let see = g.W.Trees.forest in
    let more = leaf_items (see c.args.rest.now) in
    let rest = listed_items see c.args.others.now in
    then-listed see (g.I.Items.count c.args.items.now) (g.I.Items.bounds_of c.args.items.now) (g.I.Items.tells c.args.items.now) (items_below see c.args.tree.now.below) [] c.args.near.now c.list_trees.new.near c.list_all.new.near c.in-Some.len more rest (more ++ rest) c.list_all.result refl c.in-Some.ensures c.list_all.ensures

pub returns-in-None : goal.returns-in-None
returns-in-None g c = c.in-None.ensures

pub list_trees-requires-clause-tree : goal.list_trees-requires-clause-tree
list_trees-requires-clause-tree g c = c.requires.tree

pub list_trees-requires-clause-others : goal.list_trees-requires-clause-others
list_trees-requires-clause-others g c = c.requires.rest

pub list_all-requires-clause-tree : goal.list_all-requires-clause-tree
list_all-requires-clause-tree g c = c.requires.tree

pub list_all-requires-clause-others : goal.list_all-requires-clause-others
list_all-requires-clause-others g c = c.requires.others
