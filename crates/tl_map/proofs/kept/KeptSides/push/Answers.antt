use Rattle.std.proofs.lemmas.Result.{err_from_is_err_and}
use Rattle.tl_map.proofs.KeptLemmas.{one_more, rows_more, rows_still}
use Rattle.tl_map.proofs.kept.KeptSides.push.Goals as goal

pub invariant_of-self-2 : goal.invariant_of-self-2
invariant_of-self-2 c =
    rows_more c.self.inside.more.items _ c.in_ok-row.ensures.grows.0 c.self.inside.rows.items _ c.in_ok-row.row c.in_ok-row.ensures.grows.1 c.self.invariant c.in_ok-row.ensures.row c.in_ok-push.ensures.items

pub returns : goal.returns
returns c =
    rw (← c.self.view_is) (one_more c.self.inside.more.items _ c.in_ok-row.ensures.grows.0 c.self.inside.rows.items _ c.in_ok-row.row c.args.entry c.in_ok-row.ensures.grows.1 c.self.invariant c.in_ok-row.ensures.same c.in_ok-push.ensures.items)

pub invariant_of-self : goal.invariant_of-self
invariant_of-self c = rw c.row_of.ensures.grows.1 (rows_still c.self.inside.more.items c.row_of.ensures.grows.0 c.self.inside.rows.items c.self.invariant)

pub returns-in_err-row : goal.returns-in_err-row
returns-in_err-row c =
    let p = err_from_is_err_and c.from_residual.result c.from_residual.ensures.1 in
    rw p.1 tt

pub invariant_of-self-in_err-push : goal.invariant_of-self-in_err-push
invariant_of-self-in_err-push c =
    rw (c.in_err-push.ensures.items, c.row_of.ensures.grows.1) (rows_still c.self.inside.more.items c.row_of.ensures.grows.0 c.self.inside.rows.items c.self.invariant)

pub returns-in_err-push : goal.returns-in_err-push
returns-in_err-push c =
    let p = err_from_is_err_and c.from_residual-in_err-push.result c.from_residual-in_err-push.ensures.1 in
    rw p.1 tt
