use Rattle.std.proofs.Common.{◌≡◌, ◌+◌, ◌-◌, arith, subst}
use Rattle.std.proofs.lemmas.Result.{err_from_is_err_and}
use Rattle.tigertopo_pictures.proofs.GroupLemmas.{IsLinkedFrom, link_some}
use Rattle.tigertopo_pictures.proofs.groups.Groups.new.Goals as goal

pub loop-item-preserved-then-group-count : goal.loop-item-preserved-then-group-count
loop-item-preserved-then-group-count c =
    let item = c.loop-item.item - 1 in
    let next : c.loop-item.item ≡ item + 1 = omega arith in
    let linked = subst (λ n. IsLinkedFrom c.args.count c.args.groups.now n c.loop-item.first.items c.loop-item.next.items) next c.loop-item.invariant.1 in (
      omega (arith, c.loop-item.invariant.0),
      rw (c.put_first.ensures.first, c.put_first.ensures.next)
          (link_some c.args.count c.args.groups.now item c.loop-item.first.items c.loop-item.next.items (omega (arith, c.loop-item.invariant.0)) c.in-Some.group c.in-Some.is c.if-group-count.true linked),
    )

pub returns-in_err-first : goal.returns-in_err-first
returns-in_err-first c = let p = err_from_is_err_and c.from_residual.result c.from_residual.ensures.1 in rw p.1 tt

pub returns-in_err-next : goal.returns-in_err-next
returns-in_err-next c = let p = err_from_is_err_and c.from_residual-in_err-next.result c.from_residual-in_err-next.ensures.1 in rw p.1 tt
