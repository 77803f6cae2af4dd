use Rattle.std.proofs.Common.{◌≡◌, ap, length, sym, subst, List, ℕ, ◌++◌, arith}
use Rattle.tl_tree_index.specs.Pairs.{meeting, cross_sum, AllCross, AreToldApart}
use Rattle.tl_tree.specs.Keeping.Listing.{first_items, listed_items, AllSound}
use Rattle.tl_tree.specs.Keeping.Walking.{items_below}
use Rattle.tl_tree.proofs.Leaving.{enough_all, stops, goes, leaves_same, leaves_both}
use Rattle.tl_tree.proofs.Listing.{listed-none}
use Rattle.tl_tree.proofs.PairLemmas.{cross-nil, cross-append_right, all_cross-nil, all_cross-join}
use Rattle.tl_tree.proofs.search.+search_listed.Goals as goal

pub returns-in_default : goal.returns-in_default
returns-in_default g t c =
    let see = g.W.Trees.forest in
    let xs = items_below see c.args.tree.now.below in
    let meet = meeting (g.I.Items.bounds_of c.args.items.now) in
    let e = listed-none see c.args.near.now c.in_default.ensures.cases in
    let P : List ℕ → Type 0 = AllCross (AreToldApart (g.I.Items.tells c.args.items.now)) xs in
    record {
      left = omega (arith, ap (cross_sum meet xs) e, cross-nil meet xs);
      spent = enough_all (λ f. omega arith);
      free = subst P (sym e) (all_cross-nil (AreToldApart (g.I.Items.tells c.args.items.now)) xs);
      nothing_found = c.requires.nothing_found;
    }

pub returns-then-not-search_first : goal.returns-then-not-search_first
returns-then-not-search_first g t c =
    let see = g.W.Trees.forest in
    let xs = items_below see c.args.tree.now.below in
    stops _ _ _ _ _ _ _ _ _ _ c.search_first.ensures c.if-not-search_first.true
    (λ f s u h. omega (arith, h, ap (λ ws. cross_sum f xs (listed_items see ws)) c.in-Some.ensures.cases.0, cross-append_right f xs (first_items (see c.in-Some.at.now)) (listed_items see c.in-Some.rest.now)))

pub returns : goal.returns
returns g t c =
    let see = g.W.Trees.forest in
    let xs = items_below see c.args.tree.now.below in
    let n = g.I.Items.count c.args.items.now in
    let tells = g.I.Items.tells c.args.items.now in
    let b = g.I.Items.bounds_of c.args.items.now in
    let ys = first_items (see c.in-Some.at.now) in
    let zs = listed_items see c.in-Some.rest.now in
    let e : listed_items see c.args.near.now ≡ ys ++ zs = ap (listed_items see) c.in-Some.ensures.cases.0 in
    let P : List ℕ → Type 0 = AllCross (AreToldApart tells) xs in
    leaves_same n b tells _ _ _ _ _ _ c.search_listed.result
    (λ f s. omega (arith, cross-append_right f xs ys zs, ap (cross_sum f xs) e))
    (λ h. subst P (sym e) (all_cross-join (AreToldApart tells) xs ys zs h.0 h.1))
    (leaves_both n b tells _ _ _ _ _ _ _ c.search_listed.result (goes _ _ _ _ _ _ _ _ c.search_first.ensures c.if-not-search_first.false) c.search_listed.ensures)

pub search_first-requires-clause-tree : goal.search_first-requires-clause-tree
search_first-requires-clause-tree g t c = c.requires.tree

pub search_first-requires-clause-at : goal.search_first-requires-clause-at
search_first-requires-clause-at g t c =
    let P : List g.row.W.Denot → Type 0 = AllSound (g.I.Items.count c.args.items.now) (g.I.Items.bounds_of c.args.items.now) g.W.Trees.forest in
    (subst P c.in-Some.ensures.cases.0 c.requires.near).0

pub search_listed-requires : goal.search_listed-requires
search_listed-requires g t c κs within =
    let P : List g.row.W.Denot → Type 0 = AllSound (g.I.Items.count c.args.items.now) (g.I.Items.bounds_of c.args.items.now) g.W.Trees.forest in
    (omega (arith, ap length c.in-Some.ensures.cases.0), (within.0, (within.1.0, (within.1.1, (c.requires.tree, ((subst P c.in-Some.ensures.cases.0 c.requires.near).1, (goes _ _ _ _ _ _ _ _ c.search_first.ensures c.if-not-search_first.false).nothing_found))))))
