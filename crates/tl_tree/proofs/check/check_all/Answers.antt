use Rattle.std.proofs.Common.{rules, ◌≡◌, false, replicate, length, sym, ap, subst, ◌∙◌, arith}
use Rattle.tl_tree_index.specs.Keeping.Marked.{mark_at}
use Rattle.tl_tree.proofs.Checks.{exact, none-marked}
use Rattle.tl_tree.proofs.check.check_all.Goals as goal

pub returns-clause-exact : goal.returns-clause-exact
returns-clause-exact g c = exact (g.W.Trees.forest c.args.trees.now) (g.I.Items.count c.args.items.now) (g.I.Items.bounds_of c.args.items.now) c.check_marked.result c.check_marked.ensures

pub returns-clause-found : goal.returns-clause-found
returns-clause-found g c = c.check_marked.ensures

pub returns-in_default-clause-exact : goal.returns-in_default-clause-exact
returns-in_default-clause-exact g c = tt

pub returns-in_default-clause-found : goal.returns-in_default-clause-found
returns-in_default-clause-found g c = tt

pub check_marked-requires-clause-numbers : goal.check_marked-requires-clause-numbers
check_marked-requires-clause-numbers g c = c.requires

pub check_marked-requires-clause-marks : goal.check_marked-requires-clause-marks
check_marked-requires-clause-marks g c =
    let value = ap length c.as_mut_slice.ensures.value in
    let count = c.in-Ok.marks.ok in
    let long = c.in-Ok.ensures.len in
    let all = c.len.ensures in
    omega (arith, value, count, long, all)

pub check_marked-requires-clause-unmarked : goal.check_marked-requires-clause-unmarked
check_marked-requires-clause-unmarked g c = λ i.
    let none : c.as_mut_slice.result.now ≡ replicate c.len.result false = c.as_mut_slice.ensures.value ∙ c.in-Ok.ensures.items_if_clones_equal (λ mark e. search rules) in
    subst (λ marks. mark_at marks i ≡ 0) (sym none) (none-marked c.len.result i)
