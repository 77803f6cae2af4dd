use Rattle.std.proofs.Common.{◌≡◌, ap, subst, lit<, arith, sym, ◌∙◌, IsFalse}
use Rattle.std.proofs.lemmas.Bool.{false≢true}
use Rattle.tl_geom.specs.Rectangle.{AreMeeting}
use Rattle.tl_tree_index.specs.Fits.{AreBelow}
use Rattle.tl_tree_index.specs.Pairs.{meeting, cross_sum, AreToldApart, AllCross}
use Rattle.tl_tree.specs.declared.walk.Below.{Below}
use Rattle.tl_tree.specs.declared.walk.Below.TheVariants.{Items}
use Rattle.tl_tree_index.specs.Trees.{leaf_items}
use Rattle.tl_tree.specs.Keeping.Walking.{items_below, size_of, MayLeave}
use Rattle.tl_tree.proofs.PairLemmas.{cross-swap, all_cross-swap}
use Rattle.tl_tree.proofs.PairTests.{free-turned}
use Rattle.tl_tree.proofs.Apart.{cross-apart, cross-free}
use Rattle.tl_tree.proofs.Leaving.{enough_all, stops, goes, leaves_same, leaves_both}
use Rattle.tl_tree.proofs.Roots.{first-root, includes-roots}
use Rattle.tl_tree.proofs.Walks.{cross-none, cross-split, all_cross-none, all_cross-split, nodes-split, sound-children, sound-first, sound-others, size-above_0}
use Rattle.tl_tree.proofs.search.+between.Goals as goal

pub search_between-search_marked-requires : goal.search_between-search_marked-requires
search_between-search_marked-requires g t c κs within = (omega arith, (within.0, (within.1.0, (within.1.1, (c.requires.tree, (c.requires.others, (c.meeting_roots.ensures, c.requires.nothing_found)))))))

pub search_if_marked-search_two-requires : goal.search_if_marked-search_two-requires
search_if_marked-search_two-requires g t c κs within = (omega arith, (within.0, (within.1.0, (within.1.1, (c.requires.tree, (c.requires.other, c.requires.nothing_found))))))

pub search_marked-search_if_marked-requires : goal.search_marked-search_if_marked-requires
search_marked-search_if_marked-requires g t c κs within =
    let see = g.W.Trees.forest in
    let others = see c.args.others.now in
    let other = c.in-Some.other in
    let rest = see c.in-Some.rest in
    let e = nodes-split see others other.rect other.below rest c.in-Some.ensures in
    let no : IsFalse c.is_first_marked.result → AreMeeting other.rect c.args.tree.now.rect → ⊥ =
    λ f m. false≢true (sym f ∙ c.is_first_marked.ensures.1 (c.requires.marks 0 (lit< tt) (first-root see others other.rect other.below rest c.args.tree.now.rect c.in-Some.ensures m))) in
    (omega (arith, e), (within.0, (within.1.0, (within.1.1, (c.requires.tree, (sound-first see (g.I.Items.count c.args.items.now) (g.I.Items.bounds_of c.args.items.now) others other rest c.in-Some.ensures c.requires.others, (no, c.requires.nothing_found)))))))

pub search_marked-search_marked-requires : goal.search_marked-search_marked-requires
search_marked-search_marked-requires g t c κs within =
    let see = g.W.Trees.forest in
    let others = see c.args.others.now in
    let other = c.in-Some.other in
    let rest = see c.in-Some.rest in
    let e = nodes-split see others other.rect other.below rest c.in-Some.ensures in
    let m = includes-roots see others other.rect other.below rest c.args.tree.now.rect c.args.marks c.later_marks.result c.in-Some.ensures c.later_marks.ensures.moved c.later_marks.ensures.last c.requires.marks in
    (omega (arith, e, size-above_0 see other.below), (within.0, (within.1.0, (within.1.1, (c.requires.tree, (sound-others see (g.I.Items.count c.args.items.now) (g.I.Items.bounds_of c.args.items.now) others other rest c.in-Some.ensures c.requires.others, (m, (goes _ _ _ _ _ _ _ _ c.search_if_marked.ensures c.if-not-search_if_marked.false).nothing_found)))))))

pub search_two-search_between-requires : goal.search_two-search_between-requires
search_two-search_between-requires g t c κs within =
    let see = g.W.Trees.forest in
    let e = ap (λ (u : Below g.row.W.Denot). size_of see u) c.in_default-Children.is-1 in
    (omega (arith, e), (within.0, (within.1.0, (within.1.1, (c.requires.tree, (sound-children see (g.I.Items.count c.args.items.now) (g.I.Items.bounds_of c.args.items.now) c.args.other.now c.in_default-Children.children c.in_default-Children.is-1 c.requires.other, c.requires.nothing_found))))))

pub search_two-search_between-requires-in-Children-default : goal.search_two-search_between-requires-in-Children-default
search_two-search_between-requires-in-Children-default g t c κs within =
    let see = g.W.Trees.forest in
    let e = ap (λ (u : Below g.row.W.Denot). size_of see u) c.in-Children-default.is-0 in
    (omega (arith, e), (within.0, (within.1.0, (within.1.1, (c.requires.other, (sound-children see (g.I.Items.count c.args.items.now) (g.I.Items.bounds_of c.args.items.now) c.args.tree.now c.in-Children-default.children c.in-Children-default.is-0 c.requires.tree, c.requires.nothing_found))))))

pub search_marked-returns-in_default : goal.search_marked-returns-in_default
search_marked-returns-in_default g t c =
    let see = g.W.Trees.forest in
    let m = cross-none (meeting (g.I.Items.bounds_of c.args.items.now)) (items_below see c.args.tree.now.below) (see c.args.others.now) c.in_default.ensures in
    record { left = omega (arith, m); spent = enough_all (λ f. omega arith); free = all_cross-none (AreToldApart (g.I.Items.tells c.args.items.now)) (items_below see c.args.tree.now.below) (see c.args.others.now) c.in_default.ensures; nothing_found = c.requires.nothing_found }

pub search_marked-returns-then-not-search_if_marked : goal.search_marked-returns-then-not-search_if_marked
search_marked-returns-then-not-search_if_marked g t c =
    let see = g.W.Trees.forest in
    stops _ _ _ _ _ _ _ _ _ _ c.search_if_marked.ensures c.if-not-search_if_marked.true
    (λ f s e h. omega (arith, h, cross-split see f (items_below see c.args.tree.now.below) (see c.args.others.now) c.in-Some.other.rect c.in-Some.other.below (see c.in-Some.rest) c.in-Some.ensures))

pub search_marked-returns : goal.search_marked-returns
search_marked-returns g t c =
    let see = g.W.Trees.forest in
    let xs = items_below see c.args.tree.now.below in
    let n = g.I.Items.count c.args.items.now in
    let tells = g.I.Items.tells c.args.items.now in
    let b = g.I.Items.bounds_of c.args.items.now in
    leaves_same n b tells _ _ _ _ _ _ c.search_marked.result
    (λ f s. sym (cross-split see f xs (see c.args.others.now) c.in-Some.other.rect c.in-Some.other.below (see c.in-Some.rest) c.in-Some.ensures))
    (λ h. all_cross-split see (AreToldApart tells) xs (see c.args.others.now) c.in-Some.other.rect c.in-Some.other.below (see c.in-Some.rest) c.in-Some.ensures h.0 h.1)
    (leaves_both n b tells _ _ _ _ _ _ _ c.search_marked.result (goes _ _ _ _ _ _ _ _ c.search_if_marked.ensures c.if-not-search_if_marked.false) c.search_marked.ensures)

pub search_two-returns-then-not-do_meet : goal.search_two-returns-then-not-do_meet
search_two-returns-then-not-do_meet g t c =
    let b = g.I.Items.bounds_of c.args.items.now in
    let tree = c.args.tree.now in
    let other = c.args.other.now in
    let see = g.W.Trees.forest in
    let xs = items_below see tree.below in
    let ys = items_below see other.below in
    let no : AreMeeting tree.rect other.rect → ⊥ = λ h. false≢true (sym c.if-not-do_meet.true ∙ c.do_meet.ensures.1 h) in
    let m : cross_sum (meeting b) xs ys ≡ 0 = cross-apart b tree.rect other.rect xs ys no c.requires.tree.covers c.requires.other.covers in
    record { left = omega (arith, m); spent = enough_all (λ f. omega arith); free = cross-free b (g.I.Items.count c.args.items.now) (g.I.Items.tells c.args.items.now) (g.met.I.Items.apart c.args.items.now) tree.rect other.rect xs ys no c.requires.tree.known c.requires.other.known c.requires.tree.covers c.requires.other.covers; nothing_found = c.requires.nothing_found }

pub search_two-returns-in-Children-default : goal.search_two-returns-in-Children-default
search_two-returns-in-Children-default g t c =
    let see = g.W.Trees.forest in
    let other = items_below see c.args.other.now.below in
    let kids = leaf_items (see c.in-Children-default.children) in
    let tells = g.I.Items.tells c.args.items.now in
    let P : Below g.row.W.Denot → Type 0 = λ u. AllCross (AreToldApart tells) (items_below see u) other in
    leaves_same (g.I.Items.count c.args.items.now) (g.I.Items.bounds_of c.args.items.now) tells _ _ _ _ _ _ c.search_between-in-Children-default.result
    (λ f s. cross-swap f s other kids ∙ ap (λ (u : Below g.row.W.Denot). cross_sum f (items_below see u) other) (sym c.in-Children-default.is-0))
    (λ h. subst P (sym c.in-Children-default.is-0) (all_cross-swap (AreToldApart tells) (free-turned tells) other kids h))
    c.search_between-in-Children-default.ensures

pub search_if_marked-returns-else-marked : goal.search_if_marked-returns-else-marked
search_if_marked-returns-else-marked g t c =
    let b = g.I.Items.bounds_of c.args.items.now in
    let tree = c.args.tree.now in
    let other = c.args.other.now in
    let see = g.W.Trees.forest in
    let xs = items_below see tree.below in
    let ys = items_below see other.below in
    let no : AreMeeting tree.rect other.rect → ⊥ = λ m. c.requires.unmarked c.if-marked.false (record { point = m.point; in_first = m.in_second; in_second = m.in_first }) in
    let m : cross_sum (meeting b) xs ys ≡ 0 = cross-apart b tree.rect other.rect xs ys no c.requires.tree.covers c.requires.other.covers in
    record { left = omega (arith, m); spent = enough_all (λ f. omega arith); free = cross-free b (g.I.Items.count c.args.items.now) (g.I.Items.tells c.args.items.now) (g.met.I.Items.apart c.args.items.now) tree.rect other.rect xs ys no c.requires.tree.known c.requires.other.known c.requires.tree.covers c.requires.other.covers; nothing_found = c.requires.nothing_found }

pub search_between-returns : goal.search_between-returns
search_between-returns g t c = c.search_marked.ensures

pub search_if_marked-returns-then-marked : goal.search_if_marked-returns-then-marked
search_if_marked-returns-then-marked g t c = c.search_two.ensures

pub search_two-test_cross-requires-clause-some : goal.search_two-test_cross-requires-clause-some
search_two-test_cross-requires-clause-some g t c =
    let P : Below g.row.W.Denot → Type 0 = λ u. AreBelow (g.I.Items.count c.args.items.now) (items_below g.W.Trees.forest u) in
    subst P c.in-Items-Items.is-0 c.requires.tree.known

pub search_two-test_cross-requires-clause-others : goal.search_two-test_cross-requires-clause-others
search_two-test_cross-requires-clause-others g t c =
    let P : Below g.row.W.Denot → Type 0 = λ u. AreBelow (g.I.Items.count c.args.items.now) (items_below g.W.Trees.forest u) in
    subst P c.in-Items-Items.is-1 c.requires.other.known

pub search_two-returns-in-Items-Items : goal.search_two-returns-in-Items-Items
search_two-returns-in-Items-Items g t c =
    let see = g.W.Trees.forest in
    let tells = g.I.Items.tells c.args.items.now in
    let P : Below g.row.W.Denot → Below g.row.W.Denot → Type 0 = λ u v. MayLeave (g.I.Items.count c.args.items.now) (g.I.Items.bounds_of c.args.items.now) tells (λ f. cross_sum f (items_below see u) (items_below see v)) (AllCross (AreToldApart tells) (items_below see u) (items_below see v)) c.args.progress.now c.test_cross.new.progress c.test_cross.result in
    let Q : Below g.row.W.Denot → Type 0 = λ v. P c.args.tree.now.below v in
    let R : Below g.row.W.Denot → Type 0 = λ u. P u (Items c.in-Items-Items.others) in
    subst Q (sym c.in-Items-Items.is-1) (subst R (sym c.in-Items-Items.is-0) c.test_cross.ensures)

pub search_two-returns-in_default-Children : goal.search_two-returns-in_default-Children
search_two-returns-in_default-Children g t c =
    let see = g.W.Trees.forest in
    let tells = g.I.Items.tells c.args.items.now in
    let xs = items_below see c.args.tree.now.below in
    let P : Below g.row.W.Denot → Type 0 = λ u. MayLeave (g.I.Items.count c.args.items.now) (g.I.Items.bounds_of c.args.items.now) tells (λ f. cross_sum f xs (items_below see u)) (AllCross (AreToldApart tells) xs (items_below see u)) c.args.progress.now c.search_between.new.progress c.search_between.result in
    subst P (sym c.in_default-Children.is-1) c.search_between.ensures

pub search_two-test_cross-requires-clause-nothing_found : goal.search_two-test_cross-requires-clause-nothing_found
search_two-test_cross-requires-clause-nothing_found g t c = c.requires.nothing_found
