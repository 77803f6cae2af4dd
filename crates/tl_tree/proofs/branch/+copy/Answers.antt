use Rattle.std.proofs.Common.{ap, arith}
use Rattle.tl_tree.specs.declared.walk.Below.{Below}
use Rattle.tl_tree.specs.Keeping.Walking.{size_of}
use Rattle.tl_tree.proofs.Walks.{nodes-split, size-above_0}
use Rattle.tl_tree.proofs.branch.+copy.Goals as goal

pub copy_trees-copy_boxed-requires : goal.copy_trees-copy_boxed-requires
copy_trees-copy_boxed-requires g t c κs within =
    let see = g.W.Trees.forest in
    (omega (arith, nodes-split see (see c.args.trees.now) c.in-Some.tree.rect c.in-Some.tree.below (see c.in-Some.rest) c.in-Some.ensures, size-above_0 see c.in-Some.tree.below), within)

pub copy_trees-copy_boxed-requires-in-Children : goal.copy_trees-copy_boxed-requires-in-Children
copy_trees-copy_boxed-requires-in-Children g t c κs within =
    let see = g.W.Trees.forest in
    let e = ap (λ (u : Below g.row.W.Denot). size_of see u) c.in-Children.is in
    (omega (arith, nodes-split see (see c.args.trees.now) c.in-Some.tree.rect c.in-Some.tree.below (see c.in-Some.rest) c.in-Some.ensures, e), within)
