use Rattle.std.proofs.Common.{◌≡◌, length, ap, sym, ◌∙◌, map, arith}
use borrow.Author.Tests.{eqb-true}
use Rattle.std.proofs.lemmas.List.{length-map}
use Rattle.std.proofs.lemmas.Result.{err_from_is_err_and}
use Rattle.tl_tree_index.specs.declared.order.Placed.{Placed}
use Rattle.tl_tree_index.proofs.ListLemmas.{no_items}
use Rattle.tl_tree_index.proofs.NodeLemmas.{none_over, tree_over_items}
use Rattle.tl_tree_index.proofs.tree.tree_over.Goals as goal

pub returns-then-is_empty : goal.returns-then-is_empty
returns-then-is_empty g c =
    let order = c.args.order.now in
    let number = map (λ (p : Placed). p.item) in
    let none : length order ≡ 0 = omega (arith, eqb-true (length order) 0, sym c.is_empty.ensures ∙ c.if-is_empty.true) in
    none_over (g.I.Items.bounds_of c.args.items.now) c.new-nodes.result.items (number order) c.new-nodes.ensures.items (ap number (no_items order none))

pub returns : goal.returns
returns g c =
    let order = c.args.order.now in
    let number = map (λ (p : Placed). p.item) in
    tree_over_items (g.I.Items.bounds_of c.args.items.now) c.new-nodes.result.items _ (number order) (length order) c.in_ok-push_tree.field-0 c.new-nodes.ensures.items
    (sym (length-map order (λ (p : Placed). p.item))) c.requires.counted
    c.in_ok-push_tree.ensures

pub returns-in_err-push_tree : goal.returns-in_err-push_tree
returns-in_err-push_tree g c = let p = err_from_is_err_and c.from_residual.result c.from_residual.ensures.1 in rw p.1 tt
