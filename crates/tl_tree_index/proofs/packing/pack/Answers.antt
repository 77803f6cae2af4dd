use Rattle.std.proofs.Common.{subst}
use Rattle.std.proofs.lemmas.Result.{err_from_is_err_and}
use Rattle.tl_tree_index.specs.Lists.{items_in}
use Rattle.tl_tree_index.specs.Keeping.Nodes.{AreNodesOver}
use Rattle.tl_tree_index.proofs.Fitting.{fit, shallow}
use Rattle.tl_tree_index.proofs.packing.pack.Goals as goal

pub returns-clause-fits : goal.returns-clause-fits
returns-clause-fits g c =
    let bounds = g.I.Items.bounds_of c.args.items.now in
    let nodes = c.in_ok-nodes.nodes.items in
    let over : AreNodesOver bounds nodes (items_in c.in_ok-order.order.items) =
    subst (λ l. AreNodesOver bounds nodes (items_in l)) c.deref.ensures.value c.in_ok-nodes.ensures in
    fit _ bounds nodes c.in_ok-order.order.items over c.in_ok-order.ensures.all c.in_ok-order.ensures.known

pub returns-clause-shallow : goal.returns-clause-shallow
returns-clause-shallow g c =
    let bounds = g.I.Items.bounds_of c.args.items.now in
    let nodes = c.in_ok-nodes.nodes.items in
    let over : AreNodesOver bounds nodes (items_in c.in_ok-order.order.items) =
    subst (λ l. AreNodesOver bounds nodes (items_in l)) c.deref.ensures.value c.in_ok-nodes.ensures in
    shallow _ bounds nodes c.in_ok-order.order.items over c.in_ok-order.ensures.all

pub returns-in_err-order-clause-whole : goal.returns-in_err-order-clause-whole
returns-in_err-order-clause-whole g c = let p = err_from_is_err_and c.from_residual.result c.from_residual.ensures.1 in rw p.1 tt

pub returns-in_err-order-clause-fits : goal.returns-in_err-order-clause-fits
returns-in_err-order-clause-fits g c = let p = err_from_is_err_and c.from_residual.result c.from_residual.ensures.1 in rw p.1 tt

pub returns-in_err-order-clause-shallow : goal.returns-in_err-order-clause-shallow
returns-in_err-order-clause-shallow g c = let p = err_from_is_err_and c.from_residual.result c.from_residual.ensures.1 in rw p.1 tt

pub returns-in_err-order-clause-levels : goal.returns-in_err-order-clause-levels
returns-in_err-order-clause-levels g c = let p = err_from_is_err_and c.from_residual.result c.from_residual.ensures.1 in rw p.1 tt

pub returns-in_err-order-clause-split : goal.returns-in_err-order-clause-split
returns-in_err-order-clause-split g c = let p = err_from_is_err_and c.from_residual.result c.from_residual.ensures.1 in rw p.1 tt

pub returns-in_err-order-clause-filled : goal.returns-in_err-order-clause-filled
returns-in_err-order-clause-filled g c = let p = err_from_is_err_and c.from_residual.result c.from_residual.ensures.1 in rw p.1 tt

pub returns-in_err-order-clause-few : goal.returns-in_err-order-clause-few
returns-in_err-order-clause-few g c = let p = err_from_is_err_and c.from_residual.result c.from_residual.ensures.1 in rw p.1 tt

pub returns-in_err-nodes-clause-whole : goal.returns-in_err-nodes-clause-whole
returns-in_err-nodes-clause-whole g c = let p = err_from_is_err_and c.from_residual-in_err-nodes.result c.from_residual-in_err-nodes.ensures.1 in rw p.1 tt

pub returns-in_err-nodes-clause-fits : goal.returns-in_err-nodes-clause-fits
returns-in_err-nodes-clause-fits g c = let p = err_from_is_err_and c.from_residual-in_err-nodes.result c.from_residual-in_err-nodes.ensures.1 in rw p.1 tt

pub returns-in_err-nodes-clause-shallow : goal.returns-in_err-nodes-clause-shallow
returns-in_err-nodes-clause-shallow g c = let p = err_from_is_err_and c.from_residual-in_err-nodes.result c.from_residual-in_err-nodes.ensures.1 in rw p.1 tt

pub returns-in_err-nodes-clause-levels : goal.returns-in_err-nodes-clause-levels
returns-in_err-nodes-clause-levels g c = let p = err_from_is_err_and c.from_residual-in_err-nodes.result c.from_residual-in_err-nodes.ensures.1 in rw p.1 tt

pub returns-in_err-nodes-clause-split : goal.returns-in_err-nodes-clause-split
returns-in_err-nodes-clause-split g c = let p = err_from_is_err_and c.from_residual-in_err-nodes.result c.from_residual-in_err-nodes.ensures.1 in rw p.1 tt

pub returns-in_err-nodes-clause-filled : goal.returns-in_err-nodes-clause-filled
returns-in_err-nodes-clause-filled g c = let p = err_from_is_err_and c.from_residual-in_err-nodes.result c.from_residual-in_err-nodes.ensures.1 in rw p.1 tt

pub returns-in_err-nodes-clause-few : goal.returns-in_err-nodes-clause-few
returns-in_err-nodes-clause-few g c = let p = err_from_is_err_and c.from_residual-in_err-nodes.result c.from_residual-in_err-nodes.ensures.1 in rw p.1 tt

pub returns-clause-whole : goal.returns-clause-whole
returns-clause-whole g c = c.in_ok-nodes.ensures.whole

pub returns-clause-levels : goal.returns-clause-levels
returns-clause-levels g c = c.in_ok-nodes.ensures.levels

pub returns-clause-split : goal.returns-clause-split
returns-clause-split g c = c.in_ok-nodes.ensures.split

pub returns-clause-filled : goal.returns-clause-filled
returns-clause-filled g c = c.in_ok-nodes.ensures.each

pub returns-clause-few : goal.returns-clause-few
returns-clause-few g c = c.in_ok-nodes.ensures.counted
