use Rattle.std.proofs.Common.{◌<◌, length, [], refl, sym, subst, ◌∙◌, ap, map}
use Rattle.std.proofs.lemmas.List.Elements.{All-nil, All-push, All-same}
use Rattle.std.proofs.lemmas.Result.{err_from_is_err_and}
use Rattle.tl_tree_index.specs.declared.order.Placed.{Placed}
use Rattle.tl_tree_index.specs.Lists.{up}
use Rattle.tl_tree_index.proofs.ListLemmas.{up_none, up_pushed}
use Rattle.tl_tree_index.proofs.Splitting.{at_end, long_more}
use Rattle.tl_tree_index.proofs.order.place_items.Goals as goal

pub loop-item-init : goal.loop-item-init
loop-item-init g c =
    let n = g.I.Items.count c.args.items.now in
    record {
      all = ap (map (λ (p : Placed). p.item)) c.in_ok-placed.ensures.items ∙ sym up_none;
      known = All-same (λ (p : Placed). p.item < n) _ [] c.in_ok-placed.ensures.items (All-nil _);
      long = ap length c.in_ok-placed.ensures.items;
    }

pub loop-item-preserved : goal.loop-item-preserved
loop-item-preserved g c =
    let n = g.I.Items.count c.args.items.now in
    let one : c.loop-item.item < n = subst (λ m. c.loop-item.item < m) c.len-item-end.ensures c.loop-item-test.true in
    record {
      all = up_pushed (λ (p : Placed). p.item) _ _ c.loop-item.item _ c.in_ok-push.ensures.items refl c.loop-item.invariant.all;
      known = All-same (λ (p : Placed). p.item < n) _ _ c.in_ok-push.ensures.items (All-push (λ (p : Placed). p.item < n) _ _ c.loop-item.invariant.known one);
      long = long_more _ _ _ c.loop-item.item c.in_ok-push.ensures.items c.loop-item.invariant.long;
    }

pub returns-clause-all : goal.returns-clause-all
returns-clause-all g c =
    c.loop-item.invariant.all ∙ ap up (at_end _ _ c.loop-item-test.false c.loop-item.auto.item-end ∙ c.len-item-end.ensures)

pub returns-in_err-placed-clause-all : goal.returns-in_err-placed-clause-all
returns-in_err-placed-clause-all g c = let p = err_from_is_err_and c.from_residual.result c.from_residual.ensures.1 in rw p.1 tt

pub returns-in_err-placed-clause-known : goal.returns-in_err-placed-clause-known
returns-in_err-placed-clause-known g c = let p = err_from_is_err_and c.from_residual.result c.from_residual.ensures.1 in rw p.1 tt

pub returns-in_err-placed-clause-counted : goal.returns-in_err-placed-clause-counted
returns-in_err-placed-clause-counted g c = let p = err_from_is_err_and c.from_residual.result c.from_residual.ensures.1 in rw p.1 tt

pub returns-in_err-push-clause-all : goal.returns-in_err-push-clause-all
returns-in_err-push-clause-all g c = let p = err_from_is_err_and c.from_residual-in_err-push.result c.from_residual-in_err-push.ensures.1 in rw p.1 tt

pub returns-in_err-push-clause-known : goal.returns-in_err-push-clause-known
returns-in_err-push-clause-known g c = let p = err_from_is_err_and c.from_residual-in_err-push.result c.from_residual-in_err-push.ensures.1 in rw p.1 tt

pub returns-in_err-push-clause-counted : goal.returns-in_err-push-clause-counted
returns-in_err-push-clause-counted g c = let p = err_from_is_err_and c.from_residual-in_err-push.result c.from_residual-in_err-push.ensures.1 in rw p.1 tt

pub returns-clause-known : goal.returns-clause-known
returns-clause-known g c = c.loop-item.invariant.known
