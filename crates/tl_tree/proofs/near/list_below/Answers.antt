use Rattle.std.proofs.Common.{◌∙◌, List, ℕ, take, ap, refl, sym, subst, arith}
use Rattle.std.proofs.lemmas.Bool.{false≢true}
use Rattle.tl_geom.specs.Rectangle.{AreMeeting}
use Rattle.tl_tree.specs.declared.walk.Below.{Below}
use Rattle.tl_tree.specs.Keeping.Listing.{first_items, AreListed, MayList}
use Rattle.tl_tree.specs.Keeping.Walking.{items_below}
use Rattle.tl_tree.proofs.Listing.{none-listed, one-apart, first-items-of}
use Rattle.tl_tree.proofs.Walks.{sound-first, sound-children}
use Rattle.tl_tree.proofs.near.list_below.Goals as goal

pub returns-in_default : goal.returns-in_default
returns-in_default g c =
    let see = g.W.Trees.forest in
    record {
      complete = refl;
      fits = c.requires.fits;
      listed = none-listed see (g.I.Items.count c.args.items.now) (g.I.Items.bounds_of c.args.items.now) (g.I.Items.tells c.args.items.now) (items_below see c.args.tree.now.below) (take c.args.len c.args.near.now) (first_items (see c.args.at.now)) (ap first_items c.in_default.ensures);
    }

pub list_one-requires-clause-tree : goal.list_one-requires-clause-tree
list_one-requires-clause-tree g c = c.requires.tree

pub list_one-requires-clause-at : goal.list_one-requires-clause-at
list_one-requires-clause-at g c = c.requires.at

pub list_one-requires-clause-first : goal.list_one-requires-clause-first
list_one-requires-clause-first g c = record { others = _; split = c.in-Some.ensures }

pub returns-then-near-len : goal.returns-then-near-len
returns-then-near-len g c = refl

pub returns-else-near-len : goal.returns-else-near-len
returns-else-near-len g c =
    let see = g.W.Trees.forest in
    let P : List ℕ → Type 0 = λ more. AreListed (g.I.Items.count c.args.items.now) (g.I.Items.bounds_of c.args.items.now) (g.I.Items.tells c.args.items.now) see (items_below see c.args.tree.now.below) (take c.args.len c.args.near.now) c.args.near.now more c.list_one.new.near c.list_one.result in
    subst P (sym (first-items-of see (see c.args.at.now) c.in-Some.first _ c.in-Some.ensures))
    (record { complete = c.list_one.ensures.complete; fits = omega (arith, c.list_one.ensures.fits, c.if-near-len.false); listed = c.list_one.ensures.listed })

pub list_trees-requires-clause-tree : goal.list_trees-requires-clause-tree
list_trees-requires-clause-tree g c = c.requires.tree

pub list_trees-requires-clause-others : goal.list_trees-requires-clause-others
list_trees-requires-clause-others g c =
    let see = g.W.Trees.forest in
    let n = g.I.Items.count c.args.items.now in
    let b = g.I.Items.bounds_of c.args.items.now in
    sound-children see n b c.in-Some.first c.in-Children.children c.in-Children.is (sound-first see n b (see c.args.at.now) c.in-Some.first _ c.in-Some.ensures c.requires.at)

pub list_trees-requires-clause-fits : goal.list_trees-requires-clause-fits
list_trees-requires-clause-fits g c = c.requires.fits

pub returns-then-do_meet : goal.returns-then-do_meet
returns-then-do_meet g c =
    let see = g.W.Trees.forest in
    let P : List ℕ → Type 0 = λ more. MayList (g.I.Items.count c.args.items.now) (g.I.Items.bounds_of c.args.items.now) (g.I.Items.tells c.args.items.now) see (items_below see c.args.tree.now.below) (take c.args.len c.args.near.now) c.args.near.now more c.list_trees.new.near c.list_trees.result in
    subst P (sym (first-items-of see (see c.args.at.now) c.in-Some.first _ c.in-Some.ensures ∙ ap (λ (u : Below g.row.W.Denot). items_below see u) c.in-Children.is)) c.list_trees.ensures

pub returns-else-do_meet : goal.returns-else-do_meet
returns-else-do_meet g c =
    let see = g.W.Trees.forest in
    let n = g.I.Items.count c.args.items.now in
    let b = g.I.Items.bounds_of c.args.items.now in
    let tells = g.I.Items.tells c.args.items.now in
    let xs = items_below see c.args.tree.now.below in
    let old = take c.args.len c.args.near.now in
    let no : AreMeeting c.in-Some.first.rect c.args.tree.now.rect → ⊥ = λ m. false≢true (sym c.if-do_meet.false ∙ c.do_meet.ensures.1 m) in
    let k = sound-first see n b (see c.args.at.now) c.in-Some.first _ c.in-Some.ensures c.requires.at in
    let P : List ℕ → Type 0 = λ more. AreListed n b tells see xs old c.args.near.now more c.args.near.now c.args.len in
    subst P (sym (first-items-of see (see c.args.at.now) c.in-Some.first _ c.in-Some.ensures))
    (record { complete = refl; fits = c.requires.fits; listed = one-apart see n b tells xs (g.met.I.Items.apart c.args.items.now) old c.args.tree.now c.in-Some.first refl c.requires.tree k no })
