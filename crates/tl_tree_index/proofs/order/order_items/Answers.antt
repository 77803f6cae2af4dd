use Rattle.std.proofs.Common.{◌<◌, subst, map, arith}
use Rattle.std.specs.List.Sorted.{IsPermutation}
use Rattle.std.proofs.lemmas.List.Sorted.{IsPermutation-map, All-permutation, length_permutation}
use Rattle.std.proofs.lemmas.Result.{err_from_is_err_and}
use Rattle.tl_tree_index.specs.declared.order.Placed.{Placed}
use Rattle.tl_tree_index.proofs.order.order_items.Goals as goal

pub returns-clause-all : goal.returns-clause-all
returns-clause-all g c =
    let number = map (λ (p : Placed). p.item) in
    subst (λ xs. IsPermutation xs (number c.sort_placed.new.placed.items)) c.in_ok-placed.ensures.all
    (IsPermutation-map (λ (p : Placed). p.item) _ _ c.sort_placed.ensures)

pub returns-clause-known : goal.returns-clause-known
returns-clause-known g c =
    let n = g.I.Items.count c.args.items.now in
    All-permutation (λ (p : Placed). p.item < n) _ _ c.sort_placed.ensures c.in_ok-placed.ensures.known

pub returns-clause-counted : goal.returns-clause-counted
returns-clause-counted g c = omega (arith, length_permutation _ _ c.sort_placed.ensures, c.in_ok-placed.ensures.counted)

pub returns-in_err-placed-clause-all : goal.returns-in_err-placed-clause-all
returns-in_err-placed-clause-all g c = let p = err_from_is_err_and c.from_residual.result c.from_residual.ensures.1 in rw p.1 tt

pub returns-in_err-placed-clause-known : goal.returns-in_err-placed-clause-known
returns-in_err-placed-clause-known g c = let p = err_from_is_err_and c.from_residual.result c.from_residual.ensures.1 in rw p.1 tt

pub returns-in_err-placed-clause-counted : goal.returns-in_err-placed-clause-counted
returns-in_err-placed-clause-counted g c = let p = err_from_is_err_and c.from_residual.result c.from_residual.ensures.1 in rw p.1 tt
