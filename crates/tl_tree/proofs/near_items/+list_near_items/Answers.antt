use Rattle.std.proofs.Common.{List, refl, length, take, ap, subst, arith}
use Rattle.tl_tree.specs.Keeping.Listing.{first_items, listed_items, AllSound}
use Rattle.tl_tree.proofs.Listing.{none-items, then-items, listed-none}
use Rattle.tl_tree.proofs.near_items.+list_near_items.Goals as goal

pub returns-in_default : goal.returns-in_default
returns-in_default g t c =
    let see = g.W.Trees.forest in
    record {
      complete = refl;
      fits = c.requires.fits;
      listed = none-items (g.I.Items.count c.args.items.now) (g.I.Items.bounds_of c.args.items.now) (g.I.Items.tells c.args.items.now) c.args.some.now (take c.args.len c.args.near.now) (listed_items see c.args.trees.now) (listed-none see c.args.trees.now c.in_default.ensures.cases);
    }

pub list_first-requires-clause-some : goal.list_first-requires-clause-some
list_first-requires-clause-some g t c = c.requires.some

pub list_first-requires-clause-around : goal.list_first-requires-clause-around
list_first-requires-clause-around g t c = c.requires.around

pub list_first-requires-clause-at : goal.list_first-requires-clause-at
list_first-requires-clause-at g t c =
    let P : List g.row.W.Denot → Type 0 = AllSound (g.I.Items.count c.args.items.now) (g.I.Items.bounds_of c.args.items.now) g.W.Trees.forest in
    (subst P c.in-Some.ensures.cases.0 c.requires.trees).0

pub list_near_items-requires : goal.list_near_items-requires
list_near_items-requires g t c κs within =
    let P : List g.row.W.Denot → Type 0 = AllSound (g.I.Items.count c.args.items.now) (g.I.Items.bounds_of c.args.items.now) g.W.Trees.forest in
    (omega (arith, ap length c.in-Some.ensures.cases.0), (within.0, (within.1.0, (within.1.1, (c.requires.some, (c.requires.around, ((subst P c.in-Some.ensures.cases.0 c.requires.trees).1, omega (arith, c.in-Some-list_first.ensures.fits, c.in-Some-list_first.ensures.complete))))))))

pub returns-in-Some-list_first : goal.returns-in-Some-list_first
returns-in-Some-list_first g t c =
    let see = g.W.Trees.forest in
    then-items (g.I.Items.count c.args.items.now) (g.I.Items.bounds_of c.args.items.now) (g.I.Items.tells c.args.items.now) c.args.some.now (take c.args.len c.args.near.now) c.args.near.now c.list_first.new.near c.list_near_items.new.near c.in-Some-list_first.more (first_items (see c.in-Some.at.now)) (listed_items see c.in-Some.rest.now) (listed_items see c.args.trees.now) c.list_near_items.result (ap (listed_items see) c.in-Some.ensures.cases.0) c.in-Some-list_first.ensures c.list_near_items.ensures

pub returns-in-None : goal.returns-in-None
returns-in-None g t c = c.in-None.ensures

pub list_first-requires-clause-fits : goal.list_first-requires-clause-fits
list_first-requires-clause-fits g t c = c.requires.fits
