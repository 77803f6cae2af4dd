use Rattle.std.proofs.Common.{ℕ, List, refl, ap, sym, subst, take, ◌∙◌}
use Rattle.tl_tree_index.specs.Fits.{AreBelow}
use Rattle.tl_tree.specs.declared.walk.Below.{Below}
use Rattle.tl_tree.specs.Keeping.Listing.{first_items, MayListItems}
use Rattle.tl_tree.specs.Keeping.Walking.{items_below}
use Rattle.tl_tree.proofs.Listing.{first-items-of, none-items}
use Rattle.tl_tree.proofs.Walks.{sound-first, sound-children}
use Rattle.tl_tree.proofs.near_items.list_first.Goals as goal

pub returns-in_default : goal.returns-in_default
returns-in_default g c = record {
  complete = refl;
  fits = c.requires.fits;
  listed = none-items (g.I.Items.count c.args.items.now) (g.I.Items.bounds_of c.args.items.now) (g.I.Items.tells c.args.items.now) c.args.some.now (take c.args.len c.args.near.now) (first_items (g.W.Trees.forest c.args.at.now)) (ap first_items c.in_default.ensures);
}

pub list_leaf-requires-clause-others : goal.list_leaf-requires-clause-others
list_leaf-requires-clause-others g c =
    let see = g.W.Trees.forest in
    let n = g.I.Items.count c.args.items.now in
    let b = g.I.Items.bounds_of c.args.items.now in
    let h = sound-first see n b (see c.args.at.now) c.in-Some.first _ c.in-Some.ensures c.requires.at in
    let P : Below g.row.W.Denot → Type 0 = λ u. AreBelow n (items_below see u) in
    subst P c.in-Items.is h.known

pub list_children-requires-clause-trees : goal.list_children-requires-clause-trees
list_children-requires-clause-trees g c =
    let see = g.W.Trees.forest in
    let n = g.I.Items.count c.args.items.now in
    let b = g.I.Items.bounds_of c.args.items.now in
    sound-children see n b c.in-Some.first c.in-Children.children c.in-Children.is (sound-first see n b (see c.args.at.now) c.in-Some.first _ c.in-Some.ensures c.requires.at)

pub returns-in-Items : goal.returns-in-Items
returns-in-Items g c =
    let see = g.W.Trees.forest in
    let P : List ℕ → Type 0 = λ more. MayListItems (g.I.Items.count c.args.items.now) (g.I.Items.bounds_of c.args.items.now) (g.I.Items.tells c.args.items.now) c.args.some.now (take c.args.len c.args.near.now) c.args.near.now more c.list_leaf.new.near c.list_leaf.result in
    subst P (sym (first-items-of see (see c.args.at.now) c.in-Some.first _ c.in-Some.ensures ∙ ap (λ (u : Below g.row.W.Denot). items_below see u) c.in-Items.is)) c.list_leaf.ensures

pub returns-in-Children : goal.returns-in-Children
returns-in-Children g c =
    let see = g.W.Trees.forest in
    let P : List ℕ → Type 0 = λ more. MayListItems (g.I.Items.count c.args.items.now) (g.I.Items.bounds_of c.args.items.now) (g.I.Items.tells c.args.items.now) c.args.some.now (take c.args.len c.args.near.now) c.args.near.now more c.list_children.new.near c.list_children.result in
    subst P (sym (first-items-of see (see c.args.at.now) c.in-Some.first _ c.in-Some.ensures ∙ ap (λ (u : Below g.row.W.Denot). items_below see u) c.in-Children.is)) c.list_children.ensures

pub list_leaf-requires-clause-some : goal.list_leaf-requires-clause-some
list_leaf-requires-clause-some g c = c.requires.some

pub list_leaf-requires-clause-around : goal.list_leaf-requires-clause-around
list_leaf-requires-clause-around g c = c.requires.around

pub list_children-requires-clause-some : goal.list_children-requires-clause-some
list_children-requires-clause-some g c = c.requires.some

pub list_children-requires-clause-around : goal.list_children-requires-clause-around
list_children-requires-clause-around g c = c.requires.around

pub list_leaf-requires-clause-fits : goal.list_leaf-requires-clause-fits
list_leaf-requires-clause-fits g c = c.requires.fits

pub list_children-requires-clause-fits : goal.list_children-requires-clause-fits
list_children-requires-clause-fits g c = c.requires.fits
