use Rattle.std.proofs.Common.{◌≡◌, refl, ◌++◌, ap, take, sym, ◌∙◌, subst, arith}
use Rattle.std.proofs.lemmas.Bool.{false≢true}
use Rattle.tl_geom.specs.Rectangle.{AreMeeting}
use Rattle.tl_tree.specs.declared.walk.Below.{Below}
use Rattle.tl_tree_index.specs.Fits.{AreBelow}
use Rattle.tl_tree_index.specs.Trees.{leaf_items}
use Rattle.tl_tree.specs.Keeping.Listing.{MayListItems}
use Rattle.tl_tree.specs.Keeping.Walking.{items_below, size_of}
use Rattle.tl_tree.proofs.Listing.{none-items, items-apart, then-items}
use Rattle.tl_tree.proofs.Walks.{items-followed, nodes-split, sound-children, sound-first, sound-others, size-above_0}
use Rattle.tl_tree.proofs.near_items.+listing.Goals as goal

pub list_tree-list_children-requires : goal.list_tree-list_children-requires
list_tree-list_children-requires g t c κs within =
    let see = g.W.Trees.forest in
    let e = ap (λ (u : Below g.row.W.Denot). size_of see u) c.in-Children.is in
    (omega (arith, e), (within.0, (within.1.0, (within.1.1, (c.requires.some, (c.requires.around, (sound-children see (g.I.Items.count c.args.items.now) (g.I.Items.bounds_of c.args.items.now) c.args.tree.now c.in-Children.children c.in-Children.is c.requires.tree, c.requires.fits)))))))

pub list_tree-list_leaf-requires-clause-others : goal.list_tree-list_leaf-requires-clause-others
list_tree-list_leaf-requires-clause-others g t c =
    let P : Below g.row.W.Denot → Type 0 = λ u. AreBelow (g.I.Items.count c.args.items.now) (items_below g.W.Trees.forest u) in
    subst P c.in-Items.is c.requires.tree.known

pub list_children-list_tree-requires : goal.list_children-list_tree-requires
list_children-list_tree-requires g t c κs within =
    let see = g.W.Trees.forest in
    let trees = see c.args.trees.now in
    let rest = see c.in-Some.rest in
    let e = nodes-split see trees c.in-Some.tree.rect c.in-Some.tree.below rest c.in-Some.ensures in
    (omega (arith, e), (within.0, (within.1.0, (within.1.1, (c.requires.some, (c.requires.around, (sound-first see (g.I.Items.count c.args.items.now) (g.I.Items.bounds_of c.args.items.now) trees c.in-Some.tree rest c.in-Some.ensures c.requires.trees, c.requires.fits)))))))

pub list_children-list_children-requires : goal.list_children-list_children-requires
list_children-list_children-requires g t c κs within =
    let see = g.W.Trees.forest in
    let trees = see c.args.trees.now in
    let rest = see c.in-Some.rest in
    let e = nodes-split see trees c.in-Some.tree.rect c.in-Some.tree.below rest c.in-Some.ensures in
    (omega (arith, e, size-above_0 see c.in-Some.tree.below), (within.0, (within.1.0, (within.1.1, (c.requires.some, (c.requires.around, (sound-others see (g.I.Items.count c.args.items.now) (g.I.Items.bounds_of c.args.items.now) trees c.in-Some.tree rest c.in-Some.ensures c.requires.trees, omega (arith, c.in-Some-list_tree.ensures.complete, c.in-Some-list_tree.ensures.fits))))))))

pub list_tree-list_leaf-requires-clause-some : goal.list_tree-list_leaf-requires-clause-some
list_tree-list_leaf-requires-clause-some g t c = c.requires.some

pub list_tree-list_leaf-requires-clause-around : goal.list_tree-list_leaf-requires-clause-around
list_tree-list_leaf-requires-clause-around g t c = c.requires.around

pub list_tree-returns-in-Items : goal.list_tree-returns-in-Items
list_tree-returns-in-Items g t c =
    let P : Below g.row.W.Denot → Type 0 = λ u. MayListItems (g.I.Items.count c.args.items.now) (g.I.Items.bounds_of c.args.items.now) (g.I.Items.tells c.args.items.now) c.args.some.now (take c.args.len c.args.near.now) c.args.near.now (items_below g.W.Trees.forest u) c.list_leaf.new.near c.list_leaf.result in
    subst P (sym c.in-Items.is) c.list_leaf.ensures

pub list_tree-returns-in-Children : goal.list_tree-returns-in-Children
list_tree-returns-in-Children g t c =
    let P : Below g.row.W.Denot → Type 0 = λ u. MayListItems (g.I.Items.count c.args.items.now) (g.I.Items.bounds_of c.args.items.now) (g.I.Items.tells c.args.items.now) c.args.some.now (take c.args.len c.args.near.now) c.args.near.now (items_below g.W.Trees.forest u) c.list_children.new.near c.list_children.result in
    subst P (sym c.in-Children.is) c.list_children.ensures

pub list_tree-returns-then-not-do_meet : goal.list_tree-returns-then-not-do_meet
list_tree-returns-then-not-do_meet g t c =
    let b = g.I.Items.bounds_of c.args.items.now in
    let tree = c.args.tree.now in
    let ne : AreMeeting c.args.around tree.rect → ⊥ = λ h. false≢true (sym c.if-not-do_meet.true ∙ c.do_meet.ensures.1 h) in
    record {
      complete = refl;
      fits = c.requires.fits;
      listed = items-apart (g.I.Items.count c.args.items.now) b (g.I.Items.tells c.args.items.now) c.args.some.now (g.met.I.Items.apart c.args.items.now) c.args.around tree.rect c.requires.around c.requires.some (take c.args.len c.args.near.now) (items_below g.W.Trees.forest tree.below) c.requires.tree.covers c.requires.tree.known ne;
    }

pub list_children-returns-in_default : goal.list_children-returns-in_default
list_children-returns-in_default g t c =
    let see = g.W.Trees.forest in
    record {
      complete = refl;
      fits = c.requires.fits;
      listed = none-items (g.I.Items.count c.args.items.now) (g.I.Items.bounds_of c.args.items.now) (g.I.Items.tells c.args.items.now) c.args.some.now (take c.args.len c.args.near.now) (leaf_items (see c.args.trees.now)) (ap leaf_items c.in_default.ensures);
    }

pub list_children-returns-in-Some-list_tree : goal.list_children-returns-in-Some-list_tree
list_children-returns-in-Some-list_tree g t c =
    let see = g.W.Trees.forest in
    let tree = c.in-Some.tree in
    let ys = items_below see tree.below in
    let zs = leaf_items (see c.in-Some.rest) in
    let e : leaf_items (see c.args.trees.now) ≡ ys ++ zs = ap leaf_items c.in-Some.ensures ∙ items-followed see tree.rect tree.below (see c.in-Some.rest) in
    then-items (g.I.Items.count c.args.items.now) (g.I.Items.bounds_of c.args.items.now) (g.I.Items.tells c.args.items.now) c.args.some.now (take c.args.len c.args.near.now) c.args.near.now c.list_tree.new.near c.list_children.new.near c.in-Some-list_tree.more ys zs (leaf_items (see c.args.trees.now)) c.list_children.result e c.in-Some-list_tree.ensures c.list_children.ensures

pub list_children-returns-in-None : goal.list_children-returns-in-None
list_children-returns-in-None g t c = c.in-None.ensures

pub list_tree-list_leaf-requires-clause-fits : goal.list_tree-list_leaf-requires-clause-fits
list_tree-list_leaf-requires-clause-fits g t c = c.requires.fits
