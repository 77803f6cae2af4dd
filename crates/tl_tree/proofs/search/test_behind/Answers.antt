use Rattle.std.proofs.Common.{◌+◌, ℕ, List, get_or, subst}
use Rattle.tl_tree_index.specs.Pairs.{row_sum, AllRow, AreToldApart}
use Rattle.tl_tree.specs.Keeping.Walking.{MayLeave}
use Rattle.tl_tree.proofs.Steps.{below-at, below-drop, rest-of}
use Rattle.tl_tree.proofs.search.test_behind.Goals as goal

pub test_each-requires-clause-item : goal.test_each-requires-clause-item
test_each-requires-clause-item g c = below-at _ _ c.args.k c.requires.within c.requires.some

pub test_each-requires-clause-others : goal.test_each-requires-clause-others
test_each-requires-clause-others g c = rw rest-of (below-drop _ _ (c.args.k + 1) c.requires.some)

pub test_each-requires-clause-nothing_found : goal.test_each-requires-clause-nothing_found
test_each-requires-clause-nothing_found g c = c.requires.nothing_found

pub returns : goal.returns
returns g c =
    let tells = g.I.Items.tells c.args.items.now in
    let x = get_or c.args.some.now c.args.k 0 in
    let P : List ℕ → Type 0 = λ ys. MayLeave (g.I.Items.count c.args.items.now) (g.I.Items.bounds_of c.args.items.now) tells (λ f. row_sum f x ys) (AllRow (AreToldApart tells) x ys) c.args.progress.now c.test_each.new.progress c.test_each.result in
    subst P (rest-of c.args.some.now (c.args.k + 1)) c.test_each.ensures
