use Rattle.std.proofs.Common.{◌≡◌, ℕ, ◌+◌, ◌++◌, List, [], ap, arith, sym, subst, ◌∙◌}
use Rattle.tl_tree.specs.declared.walk.Below.{Below}
use Rattle.tl_tree_index.specs.Fits.{AreBelow, CoversAll}
use Rattle.tl_tree_index.specs.Pairs.{meeting, AreToldApart, AllCross, cross_sum}
use Rattle.tl_tree_index.specs.Trees.{Forest, leaf_items}
use Rattle.tl_tree.specs.Keeping.Listing.{listed_items, sum_beside, AllBeside}
use Rattle.tl_tree.specs.Keeping.Walking.{items_below, size_of, MayLeave}
use Rattle.tl_tree.proofs.Leaving.{enough_all, enough_both, stops, stops_after, goes, leaves_same, leaves_more, leaves_both}
use Rattle.tl_tree.proofs.Listing.{all_cross-parts, all_cross-append}
use Rattle.tl_tree.proofs.PairLemmas.{cross-nil, cross-append, cross-append_right, all_cross-join}
use Rattle.tl_tree.proofs.Walks.{pair-none, pair-split, all_pairs-none, all_pairs-split, items-followed, nodes-split, sound-children, sound-first, sound-others, size-above_0}
use Rattle.tl_tree.proofs.search.+within.Goals as goal

pub search_among-search_unlisted-requires : goal.search_among-search_unlisted-requires
search_among-search_unlisted-requires g t c κs within = (omega arith, (within.0, (within.1.0, (within.1.1, (c.requires.tree, (c.requires.rest, (c.requires.others, c.requires.nothing_found)))))))

pub search_among-search_one-requires : goal.search_among-search_one-requires
search_among-search_one-requires g t c κs within = (omega arith, (within.0, (within.1.0, (within.1.1, (c.requires.tree, (c.in-Some.ensures.listed.sound tt, c.requires.nothing_found))))))

pub search_among-search_unlisted-requires-in-None : goal.search_among-search_unlisted-requires-in-None
search_among-search_unlisted-requires-in-None g t c κs within = (omega arith, (within.0, (within.1.0, (within.1.1, (c.requires.tree, (c.requires.rest, (c.requires.others, c.requires.nothing_found)))))))

pub search_one-test_leaf-requires-clause-some : goal.search_one-test_leaf-requires-clause-some
search_one-test_leaf-requires-clause-some g t c =
    let P : Below g.row.W.Denot → Type 0 = λ u. AreBelow (g.I.Items.count c.args.items.now) (items_below g.W.Trees.forest u) in
    subst P c.in-Items.is c.requires.tree.known

pub search_one-test_leaf-requires-clause-around : goal.search_one-test_leaf-requires-clause-around
search_one-test_leaf-requires-clause-around g t c =
    let P : Below g.row.W.Denot → Type 0 = λ u. CoversAll (g.I.Items.bounds_of c.args.items.now) c.args.tree.now.rect (items_below g.W.Trees.forest u) in
    subst P c.in-Items.is c.requires.tree.covers

pub search_one-search_within-requires : goal.search_one-search_within-requires
search_one-search_within-requires g t c κs within =
    let see = g.W.Trees.forest in
    let e = ap (λ (u : Below g.row.W.Denot). size_of see u) c.in-Children.is in
    (omega (arith, e), (within.0, (within.1.0, (within.1.1, (sound-children see (g.I.Items.count c.args.items.now) (g.I.Items.bounds_of c.args.items.now) c.args.tree.now c.in-Children.children c.in-Children.is c.requires.tree, (c.requires.near, c.requires.nothing_found))))))

pub search_one-returns-in-Items : goal.search_one-returns-in-Items
search_one-returns-in-Items g t c =
    let see = g.W.Trees.forest in
    let meet = meeting (g.I.Items.bounds_of c.args.items.now) in
    let tells = g.I.Items.tells c.args.items.now in
    let ys = listed_items see c.args.near.now in
    let P : Below g.row.W.Denot → Type 0 = λ u. MayLeave (g.I.Items.count c.args.items.now) (g.I.Items.bounds_of c.args.items.now) tells (λ f. sum_beside f (items_below see u) ys) (AllBeside (AreToldApart tells) (items_below see u) ys) c.args.progress.now c.test_leaf.new.progress c.test_leaf.result in
    subst P (sym c.in-Items.is) c.test_leaf.ensures

pub search_one-returns-in-Children : goal.search_one-returns-in-Children
search_one-returns-in-Children g t c =
    let see = g.W.Trees.forest in
    let meet = meeting (g.I.Items.bounds_of c.args.items.now) in
    let tells = g.I.Items.tells c.args.items.now in
    let ys = listed_items see c.args.near.now in
    let P : Below g.row.W.Denot → Type 0 = λ u. MayLeave (g.I.Items.count c.args.items.now) (g.I.Items.bounds_of c.args.items.now) tells (λ f. sum_beside f (items_below see u) ys) (AllBeside (AreToldApart tells) (items_below see u) ys) c.args.progress.now c.search_within.new.progress c.search_within.result in
    subst P (sym c.in-Children.is) c.search_within.ensures

pub search_unlisted-search_listed-requires-clause-nothing_found : goal.search_unlisted-search_listed-requires-clause-nothing_found
search_unlisted-search_listed-requires-clause-nothing_found g t c = (goes _ _ _ _ _ _ _ _ c.search_between.ensures c.if-not-search_between.false).nothing_found

pub search_unlisted-search_one-requires : goal.search_unlisted-search_one-requires
search_unlisted-search_one-requires g t c κs within = (omega arith, (within.0, (within.1.0, (within.1.1, (c.requires.tree, (tt, (goes _ _ _ _ _ _ _ _ c.search_listed.ensures c.if-not-search_listed.false).nothing_found))))))

pub search_within-returns-in_default : goal.search_within-returns-in_default
search_within-returns-in_default g t c =
    let see = g.W.Trees.forest in
    let meet = meeting (g.I.Items.bounds_of c.args.items.now) in
    let free = AreToldApart (g.I.Items.tells c.args.items.now) in
    let zs = listed_items see c.args.others.now in
    let P : Forest → Type 0 = λ f. AllCross free (leaf_items f) zs in
    record {
      left = omega (arith, pair-none meet (see c.args.trees.now) c.in_default.ensures, ap (λ f. cross_sum meet (leaf_items f) zs) c.in_default.ensures);
      spent = enough_all (λ f. omega arith);
      free = (all_pairs-none free (see c.args.trees.now) c.in_default.ensures, subst P (sym c.in_default.ensures) tt);
      nothing_found = c.requires.nothing_found;
    }

pub search_within-search_among-requires : goal.search_within-search_among-requires
search_within-search_among-requires g t c κs within =
    let see = g.W.Trees.forest in
    let n = g.I.Items.count c.args.items.now in
    let b = g.I.Items.bounds_of c.args.items.now in
    let trees = see c.args.trees.now in
    let rest = see c.in-Some.rest in
    let e = nodes-split see trees c.in-Some.tree.rect c.in-Some.tree.below rest c.in-Some.ensures in
    (omega (arith, e), (within.0, (within.1.0, (within.1.1, (sound-first see n b trees c.in-Some.tree rest c.in-Some.ensures c.requires.trees, (sound-others see n b trees c.in-Some.tree rest c.in-Some.ensures c.requires.trees, (c.requires.others, c.requires.nothing_found)))))))

pub search_within-search_within-requires : goal.search_within-search_within-requires
search_within-search_within-requires g t c κs within =
    let see = g.W.Trees.forest in
    let trees = see c.args.trees.now in
    let rest = see c.in-Some.rest in
    let e = nodes-split see trees c.in-Some.tree.rect c.in-Some.tree.below rest c.in-Some.ensures in
    (omega (arith, e, size-above_0 see c.in-Some.tree.below), (within.0, (within.1.0, (within.1.1, (sound-others see (g.I.Items.count c.args.items.now) (g.I.Items.bounds_of c.args.items.now) trees c.in-Some.tree rest c.in-Some.ensures c.requires.trees, (c.requires.others, (goes _ _ _ _ _ _ _ _ c.search_among.ensures c.if-not-search_among.false).nothing_found))))))

pub search_among-returns-in-Some : goal.search_among-returns-in-Some
search_among-returns-in-Some g t c =
    let see = g.W.Trees.forest in
    let n = g.I.Items.count c.args.items.now in
    let tells = g.I.Items.tells c.args.items.now in
    let meet = meeting (g.I.Items.bounds_of c.args.items.now) in
    let xs = items_below see c.args.tree.now.below in
    let s = c.in-Some.ensures.listed in
    leaves_more n (g.I.Items.bounds_of c.args.items.now) tells _ _ _ _ _ _ c.search_one.result
    (omega (arith, s.sum, cross-nil meet xs))
    (λ f u. omega (arith, s.most f, cross-nil f xs))
    (λ h. (h.0, (s.free h.1).1))
    c.search_one.ensures

pub search_unlisted-returns-then-not-search_between : goal.search_unlisted-returns-then-not-search_between
search_unlisted-returns-then-not-search_between g t c =
    let see = g.W.Trees.forest in
    let xs = items_below see c.args.tree.now.below in
    stops _ _ _ _ _ _ _ _ _ _ c.search_between.ensures c.if-not-search_between.true
    (λ f s e h. omega (arith, h, cross-append_right f xs (leaf_items (see c.args.rest.now)) (listed_items see c.args.others.now)))

pub search_unlisted-returns-then-not-search_listed : goal.search_unlisted-returns-then-not-search_listed
search_unlisted-returns-then-not-search_listed g t c =
    let see = g.W.Trees.forest in
    let xs = items_below see c.args.tree.now.below in
    let k = goes _ _ _ _ _ _ _ _ c.search_between.ensures c.if-not-search_between.false in
    stops_after _ _ _ _ _ _ _ _ _ _ c.search_listed.ensures c.if-not-search_listed.true k.spent
    (λ f s p e h. omega (arith, h, p, cross-append_right f xs (leaf_items (see c.args.rest.now)) (listed_items see c.args.others.now)))

pub search_unlisted-returns : goal.search_unlisted-returns
search_unlisted-returns g t c =
    let see = g.W.Trees.forest in
    let n = g.I.Items.count c.args.items.now in
    let tells = g.I.Items.tells c.args.items.now in
    let free = AreToldApart tells in
    let b = g.I.Items.bounds_of c.args.items.now in
    let xs = items_below see c.args.tree.now.below in
    let ys = leaf_items (see c.args.rest.now) in
    let zs = listed_items see c.args.others.now in
    let h = goes _ _ _ _ _ _ _ _ c.search_between.ensures c.if-not-search_between.false in
    let k = goes _ _ _ _ _ _ _ _ c.search_listed.ensures c.if-not-search_listed.false in
    leaves_same n b tells _ _ _ _ _ _ c.search_one.result
    (λ f s. omega (arith, cross-append_right f xs ys zs, cross-nil f xs))
    (λ (f : (AllCross free xs ys × AllCross free xs zs) × AllBeside free xs []). (f.1.0, all_cross-join free xs ys zs f.0.0 f.0.1))
    (leaves_both n b tells (λ f. cross_sum f xs ys + cross_sum f xs zs) (AllCross free xs ys × AllCross free xs zs) _ _ _ _ (AllBeside free xs []) c.search_one.result
    (record { left = omega (arith, h.left, k.left); spent = enough_both h.spent k.spent (λ f s p q. omega (arith, p, q)); free = (h.free, k.free); nothing_found = k.nothing_found }) c.search_one.ensures)

pub search_within-returns-then-not-search_among : goal.search_within-returns-then-not-search_among
search_within-returns-then-not-search_among g t c =
    let see = g.W.Trees.forest in
    let xs = items_below see c.in-Some.tree.below in
    let ys = leaf_items (see c.in-Some.rest) in
    let zs = listed_items see c.args.others.now in
    let e : leaf_items (see c.args.trees.now) ≡ xs ++ ys = ap leaf_items c.in-Some.ensures ∙ items-followed see c.in-Some.tree.rect c.in-Some.tree.below (see c.in-Some.rest) in
    stops _ _ _ _ _ _ _ _ _ _ c.search_among.ensures c.if-not-search_among.true
    (λ f s u h.
    let m = pair-split see f (see c.args.trees.now) c.in-Some.tree.rect c.in-Some.tree.below (see c.in-Some.rest) c.in-Some.ensures in
    omega (arith, h, m, ap (λ ws. cross_sum f ws zs) e, cross-append f xs ys zs, cross-append_right f xs ys zs))

pub search_within-returns : goal.search_within-returns
search_within-returns g t c =
    let see = g.W.Trees.forest in
    let n = g.I.Items.count c.args.items.now in
    let tells = g.I.Items.tells c.args.items.now in
    let free = AreToldApart tells in
    let b = g.I.Items.bounds_of c.args.items.now in
    let xs = items_below see c.in-Some.tree.below in
    let ys = leaf_items (see c.in-Some.rest) in
    let zs = listed_items see c.args.others.now in
    let e : leaf_items (see c.args.trees.now) ≡ xs ++ ys = ap leaf_items c.in-Some.ensures ∙ items-followed see c.in-Some.tree.rect c.in-Some.tree.below (see c.in-Some.rest) in
    let P : List ℕ → Type 0 = λ ws. AllCross free ws zs in
    let h = goes _ _ _ _ _ _ _ _ c.search_among.ensures c.if-not-search_among.false in
    leaves_same n b tells _ _ _ _ _ _ c.search_within.result
    (λ f s.
    let m = pair-split see f (see c.args.trees.now) c.in-Some.tree.rect c.in-Some.tree.below (see c.in-Some.rest) c.in-Some.ensures in
    omega (arith, m, ap (λ ws. cross_sum f ws zs) e, cross-append f xs ys zs, cross-append_right f xs ys zs))
    (λ (f : AllBeside free xs (ys ++ zs) × AllBeside free ys zs).
    let p = all_cross-parts free xs ys zs f.0.1 in
    (all_pairs-split see free (see c.args.trees.now) c.in-Some.tree.rect c.in-Some.tree.below (see c.in-Some.rest) c.in-Some.ensures f.0.0 p.0 f.1.0, subst P (sym e) (all_cross-append free xs ys zs p.1 f.1.1)))
    (leaves_both n b tells (λ f. sum_beside f xs (ys ++ zs)) (AllBeside free xs (ys ++ zs)) _ _ _ _ (AllBeside free ys zs) c.search_within.result h c.search_within.ensures)

pub search_among-returns-then-room-lt-LIST : goal.search_among-returns-then-room-lt-LIST
search_among-returns-then-room-lt-LIST g t c = c.search_unlisted.ensures

pub search_among-returns-in-None : goal.search_among-returns-in-None
search_among-returns-in-None g t c = c.search_unlisted-in-None.ensures

pub search_among-list_near-requires-clause-tree : goal.search_among-list_near-requires-clause-tree
search_among-list_near-requires-clause-tree g t c = c.requires.tree

pub search_among-list_near-requires-clause-rest : goal.search_among-list_near-requires-clause-rest
search_among-list_near-requires-clause-rest g t c = c.requires.rest

pub search_among-list_near-requires-clause-others : goal.search_among-list_near-requires-clause-others
search_among-list_near-requires-clause-others g t c = c.requires.others

pub search_one-test_leaf-requires-clause-near : goal.search_one-test_leaf-requires-clause-near
search_one-test_leaf-requires-clause-near g t c = c.requires.near

pub search_unlisted-search_between-requires-clause-tree : goal.search_unlisted-search_between-requires-clause-tree
search_unlisted-search_between-requires-clause-tree g t c = c.requires.tree

pub search_unlisted-search_between-requires-clause-others : goal.search_unlisted-search_between-requires-clause-others
search_unlisted-search_between-requires-clause-others g t c = c.requires.rest

pub search_unlisted-search_listed-requires-clause-tree : goal.search_unlisted-search_listed-requires-clause-tree
search_unlisted-search_listed-requires-clause-tree g t c = c.requires.tree

pub search_unlisted-search_listed-requires-clause-near : goal.search_unlisted-search_listed-requires-clause-near
search_unlisted-search_listed-requires-clause-near g t c = c.requires.others

pub search_one-test_leaf-requires-clause-nothing_found : goal.search_one-test_leaf-requires-clause-nothing_found
search_one-test_leaf-requires-clause-nothing_found g t c = c.requires.nothing_found

pub search_unlisted-search_between-requires-clause-nothing_found : goal.search_unlisted-search_between-requires-clause-nothing_found
search_unlisted-search_between-requires-clause-nothing_found g t c = c.requires.nothing_found
