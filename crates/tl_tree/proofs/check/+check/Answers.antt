use Rattle.std.proofs.Common.{◌≡◌, ℕ, ◌+◌, Result, Ok, Err, ap, sym, ◌∙◌, subst, arith}
use Rattle.std.proofs.lemmas.Bool.{false≢true}
use Rattle.tl_tree.specs.declared.walk.Below.{Below}
use Rattle.tl_geom.specs.declared.rect.Rect.{Rect}
use Rattle.tl_tree_index.specs.declared.fault.TreeFault.{TreeFault}
use Rattle.tl_tree_index.specs.Fits.{AreBelow}
use Rattle.tl_tree_index.specs.Trees.{node_count}
use Rattle.tl_tree.specs.Keeping.Checking.{IsChecked, IsFaultBelow, IsAnsweredBy}
use Rattle.tl_tree.specs.Keeping.Walking.{size_of}
use Rattle.tl_tree.proofs.Checks.{none-checked, checked-items, checked-children, fault-first, fault-others, too-small, checked-both}
use Rattle.tl_tree.proofs.Walks.{nodes-split, size-above_0}
use Rattle.tl_tree.proofs.check.+check.Goals as goal

-- what is told of children is told below their root
told-below : {P Q : Rect → Type 0} {F G : TreeFault → Type 0} (n o k : ℕ) (r : Result Rect TreeFault) → ((hull : Rect) → P hull → Q hull) → ((fault : TreeFault) → F fault → G fault) → IsAnsweredBy P (n ≡ o + k) F r → IsAnsweredBy Q (n + 1 ≡ o + (1 + k)) G r
told-below n o k (Ok hull) p f h = (p hull h.0, omega (arith, h.1))
told-below n o k (Err fault) p f h = f fault h

pub check_below-check_trees-requires : goal.check_below-check_trees-requires
check_below-check_trees-requires g t c κs within =
    let e = ap (λ (u : Below g.row.W.Denot). size_of g.W.Trees.forest u) c.in-Children.is in
    (omega (arith, e), (within.0, (within.1.0, (within.1.1, (c.requires.marks, omega (arith, e, c.requires.numbers))))))

pub check_below-hull_of_items-requires : goal.check_below-hull_of_items-requires
check_below-hull_of_items-requires g t c =
    let P : ℕ → Type 0 = λ n. AreBelow n c.in-Items.some.now in
    subst P c.requires.marks c.in-Ok.ensures.marked.known

pub check_below-returns-in-Ok : goal.check_below-returns-in-Ok
check_below-returns-in-Ok g t c =
    let e = ap (λ (u : Below g.row.W.Denot). size_of g.W.Trees.forest u) c.in-Items.is in
    (checked-items (g.I.Items.bounds_of c.args.items.now) g.W.Trees.forest c.args.marks.now c.args.tree.now.below c.in-Items.some c.mark_items.new.marks c.hull_of_items.result c.in-Items.is c.in-Ok.ensures.marked c.hull_of_items.ensures, omega (arith, e))

pub check_below-returns-in-Err : goal.check_below-returns-in-Err
check_below-returns-in-Err g t c =
    let P : Below g.row.W.Denot → Type 0 = λ u. IsFaultBelow (g.I.Items.bounds_of c.args.items.now) c.args.marks.now c.args.number.now g.W.Trees.forest u c.in-Err.fault in
    subst P (sym c.in-Items.is) c.in-Err.ensures.fault

pub check_below-returns-in-Children : goal.check_below-returns-in-Children
check_below-returns-in-Children g t c =
    let see = g.W.Trees.forest in
    let b = g.I.Items.bounds_of c.args.items.now in
    let e = ap (λ (u : Below g.row.W.Denot). size_of see u) c.in-Children.is in
    let k = see c.in-Children.children in
    let Q : ℕ → Type 0 = λ size. IsAnsweredBy (IsChecked b see c.args.tree.now.below c.args.marks.now c.check_trees.new.marks) (c.check_trees.new.number + 1 ≡ c.args.number.now + size) (IsFaultBelow b c.args.marks.now c.args.number.now see c.args.tree.now.below) c.check_trees.result in
    subst Q (sym e)
    (told-below c.check_trees.new.number c.args.number.now (node_count k) c.check_trees.result
    (λ hull h. checked-children b see c.args.marks.now c.args.tree.now.below c.in-Children.children c.check_trees.new.marks hull c.in-Children.is h)
    (λ fault h. let P : Below g.row.W.Denot → Type 0 = λ u. IsFaultBelow b c.args.marks.now c.args.number.now see u fault in subst P (sym c.in-Children.is) h)
    c.check_trees.ensures)

pub check_trees-check_below-requires : goal.check_trees-check_below-requires
check_trees-check_below-requires g t c κs within =
    let see = g.W.Trees.forest in
    let e = nodes-split see (see c.args.trees.now) c.in-Some.tree.rect c.in-Some.tree.below (see c.in-Some.rest) c.in-Some.ensures in
    (omega (arith, e), (within.0, (within.1.0, (within.1.1, (c.requires.marks, omega (arith, e, c.requires.numbers))))))

pub check_trees-check_trees-requires : goal.check_trees-check_trees-requires
check_trees-check_trees-requires g t c κs within =
    let see = g.W.Trees.forest in
    let e = nodes-split see (see c.args.trees.now) c.in-Some.tree.rect c.in-Some.tree.below (see c.in-Some.rest) c.in-Some.ensures in
    let k = size-above_0 see c.in-Some.tree.below in
    (omega (arith, e, k), (within.0, (within.1.0, (within.1.1, (c.in-Ok.ensures.0.marked.complete ∙ c.requires.marks, omega (arith, e, c.requires.numbers, c.in-Ok.ensures.1))))))

pub check_trees-returns-in_default : goal.check_trees-returns-in_default
check_trees-returns-in_default g t c = (none-checked (g.I.Items.bounds_of c.args.items.now) c.args.marks.now (g.W.Trees.forest c.args.trees.now) c.in_default.ensures, omega (arith, ap node_count c.in_default.ensures))

pub check_trees-returns-in-Err : goal.check_trees-returns-in-Err
check_trees-returns-in-Err g t c =
    let see = g.W.Trees.forest in
    fault-first (g.I.Items.bounds_of c.args.items.now) see c.args.marks.now c.args.number.now (see c.args.trees.now) c.in-Some.tree.rect c.in-Some.tree.below (see c.in-Some.rest) c.in-Err.fault c.in-Some.ensures c.in-Err.ensures

pub check_trees-returns-then-not-covers : goal.check_trees-returns-then-not-covers
check_trees-returns-then-not-covers g t c =
    let see = g.W.Trees.forest in
    too-small (g.I.Items.bounds_of c.args.items.now) see c.args.marks.now c.args.number.now (see c.args.trees.now) c.in-Some.tree.rect c.in-Some.tree.below (see c.in-Some.rest) c.in-Some.ensures
    (λ h. false≢true (sym c.if-not-covers.true ∙ c.covers.ensures.1 ((c.in-Ok.ensures.0.around c.in-Some.tree.rect).1 h)))

pub check_trees-returns-in-Ok-check_trees : goal.check_trees-returns-in-Ok-check_trees
check_trees-returns-in-Ok-check_trees g t c =
    let see = g.W.Trees.forest in
    let e = nodes-split see (see c.args.trees.now) c.in-Some.tree.rect c.in-Some.tree.below (see c.in-Some.rest) c.in-Some.ensures in (
      checked-both (g.I.Items.bounds_of c.args.items.now) see c.args.marks.now (see c.args.trees.now) c.in-Some.tree.rect c.in-Some.tree.below (see c.in-Some.rest) c.check_below.new.marks c.check_trees.new.marks c.in-Ok.hull c.in-Ok-check_trees.others c.hull_of.result c.in-Some.ensures c.in-Ok.ensures.0 (c.covers.ensures.0 c.if-not-covers.false) c.in-Ok-check_trees.ensures.0 c.hull_of.ensures,
      omega (arith, e, c.in-Ok.ensures.1, c.in-Ok-check_trees.ensures.1),
    )

pub check_trees-returns-in-Err-check_trees : goal.check_trees-returns-in-Err-check_trees
check_trees-returns-in-Err-check_trees g t c =
    let see = g.W.Trees.forest in
    fault-others (g.I.Items.bounds_of c.args.items.now) see c.args.marks.now c.args.number.now c.check_below.new.number (see c.args.trees.now) c.in-Some.tree.rect c.in-Some.tree.below (see c.in-Some.rest) c.check_below.new.marks c.in-Err-check_trees.fault c.in-Some.ensures c.in-Ok.ensures.0.marked (omega (arith, c.in-Ok.ensures.1)) c.in-Err-check_trees.ensures
