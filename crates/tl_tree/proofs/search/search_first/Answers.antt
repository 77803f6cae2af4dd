use Rattle.std.proofs.Common.{ap, sym, subst, List, ℕ, arith}
use Rattle.tl_tree_index.specs.Pairs.{meeting, cross_sum, AllCross, AreToldApart}
use Rattle.tl_tree.specs.Keeping.Listing.{first_items}
use Rattle.tl_tree.specs.Keeping.Walking.{items_below, MayLeave}
use Rattle.tl_tree.proofs.PairLemmas.{cross-nil, all_cross-nil}
use Rattle.tl_tree.proofs.Leaving.{enough_all}
use Rattle.tl_tree.proofs.Listing.{first-items-of}
use Rattle.tl_tree.proofs.Walks.{sound-first}
use Rattle.tl_tree.proofs.search.search_first.Goals as goal

pub returns-in_default : goal.returns-in_default
returns-in_default g c =
    let see = g.W.Trees.forest in
    let xs = items_below see c.args.tree.now.below in
    let meet = meeting (g.I.Items.bounds_of c.args.items.now) in
    let e = ap first_items c.in_default.ensures in
    let P : List ℕ → Type 0 = AllCross (AreToldApart (g.I.Items.tells c.args.items.now)) xs in
    record {
      left = omega (arith, ap (cross_sum meet xs) e, cross-nil meet xs);
      spent = enough_all (λ f. omega arith);
      free = subst P (sym e) (all_cross-nil (AreToldApart (g.I.Items.tells c.args.items.now)) xs);
      nothing_found = c.requires.nothing_found;
    }

pub search_two-requires-clause-other : goal.search_two-requires-clause-other
search_two-requires-clause-other g c =
    let see = g.W.Trees.forest in
    sound-first see (g.I.Items.count c.args.items.now) (g.I.Items.bounds_of c.args.items.now) (see c.args.at.now) c.in-Some.first _ c.in-Some.ensures c.requires.at

pub search_two-requires-clause-tree : goal.search_two-requires-clause-tree
search_two-requires-clause-tree g c = c.requires.tree

pub returns : goal.returns
returns g c =
    let see = g.W.Trees.forest in
    let xs = items_below see c.args.tree.now.below in
    let tells = g.I.Items.tells c.args.items.now in
    let P : List ℕ → Type 0 = λ ys. MayLeave (g.I.Items.count c.args.items.now) (g.I.Items.bounds_of c.args.items.now) tells (λ f. cross_sum f xs ys) (AllCross (AreToldApart tells) xs ys) c.args.progress.now c.search_two.new.progress c.search_two.result in
    subst P (sym (first-items-of see (see c.args.at.now) c.in-Some.first _ c.in-Some.ensures)) c.search_two.ensures
