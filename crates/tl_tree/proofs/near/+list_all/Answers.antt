use Rattle.std.proofs.Common.{List, refl, length, take, ap, subst, arith}
use Rattle.tl_tree.specs.Keeping.Listing.{first_items, listed_items, AllSound}
use Rattle.tl_tree.specs.Keeping.Walking.{items_below}
use Rattle.tl_tree.proofs.Listing.{none-listed, then-listed, listed-none}
use Rattle.tl_tree.proofs.near.+list_all.Goals as goal

pub returns-in_default : goal.returns-in_default
returns-in_default g t c =
    let see = g.W.Trees.forest in
    record {
      complete = refl;
      fits = c.requires.fits;
      listed = none-listed see (g.I.Items.count c.args.items.now) (g.I.Items.bounds_of c.args.items.now) (g.I.Items.tells c.args.items.now) (items_below see c.args.tree.now.below) (take c.args.len c.args.near.now) (listed_items see c.args.others.now) (listed-none see c.args.others.now c.in_default.ensures.cases);
    }

pub list_below-requires-clause-tree : goal.list_below-requires-clause-tree
list_below-requires-clause-tree g t c = c.requires.tree

pub list_below-requires-clause-at : goal.list_below-requires-clause-at
list_below-requires-clause-at g t c =
    let P : List g.row.W.Denot → Type 0 = AllSound (g.I.Items.count c.args.items.now) (g.I.Items.bounds_of c.args.items.now) g.W.Trees.forest in
    (subst P c.in-Some.ensures.cases.0 c.requires.others).0

pub list_all-requires : goal.list_all-requires
list_all-requires g t c κs within =
    let P : List g.row.W.Denot → Type 0 = AllSound (g.I.Items.count c.args.items.now) (g.I.Items.bounds_of c.args.items.now) g.W.Trees.forest in
    (omega (arith, ap length c.in-Some.ensures.cases.0), (within.0, (within.1.0, (within.1.1, (c.requires.tree, ((subst P c.in-Some.ensures.cases.0 c.requires.others).1, omega (arith, c.in-Some-list_below.ensures.fits, c.in-Some-list_below.ensures.complete)))))))

pub returns-in-Some-list_below : goal.returns-in-Some-list_below
returns-in-Some-list_below g t c =
    let see = g.W.Trees.forest in
    then-listed see (g.I.Items.count c.args.items.now) (g.I.Items.bounds_of c.args.items.now) (g.I.Items.tells c.args.items.now) (items_below see c.args.tree.now.below) (take c.args.len c.args.near.now) c.args.near.now c.list_below.new.near c.list_all.new.near c.in-Some-list_below.more (first_items (see c.in-Some.first.now)) (listed_items see c.in-Some.rest.now) (listed_items see c.args.others.now) c.list_all.result (ap (listed_items see) c.in-Some.ensures.cases.0) c.in-Some-list_below.ensures c.list_all.ensures

pub returns-in-None : goal.returns-in-None
returns-in-None g t c = c.in-None.ensures

pub list_below-requires-clause-fits : goal.list_below-requires-clause-fits
list_below-requires-clause-fits g t c = c.requires.fits
