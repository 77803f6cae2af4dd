use Rattle.std.proofs.Common.{◌≡◌, ◌+◌, length, [], ◌∷◌, ◌∙◌, sym, append-nil, arith}
use Rattle.std.proofs.lemmas.Result.{err_from_is_err_and}
use Rattle.tl_map.proofs.KeptLemmas.{row_same}
use Rattle.tl_map.proofs.kept.keep_more.Goals as goal

pub returns-in_default-clause-row : goal.returns-in_default-clause-row
returns-in_default-clause-row c = tt

pub returns-in_default-clause-same : goal.returns-in_default-clause-same
returns-in_default-clause-same c = tt

pub returns-in_err-push-clause-row : goal.returns-in_err-push-clause-row
returns-in_err-push-clause-row c =
    let p = err_from_is_err_and c.from_residual.result c.from_residual.ensures.1 in
    rw p.1 tt

pub returns-in_err-push-clause-same : goal.returns-in_err-push-clause-same
returns-in_err-push-clause-same c =
    let p = err_from_is_err_and c.from_residual.result c.from_residual.ensures.1 in
    rw p.1 tt

pub returns-in_err-push-clause-grows : goal.returns-in_err-push-clause-grows
returns-in_err-push-clause-grows c = ([], c.in_err-push.ensures.items ∙ sym (append-nil c.args.more.now.items))

pub returns-in_default-clause-grows : goal.returns-in_default-clause-grows
returns-in_default-clause-grows c = (_ ∷ [], c.in_ok-push.ensures.items)

pub returns-clause-grows : goal.returns-clause-grows
returns-clause-grows c = (_ ∷ [], c.in_ok-push.ensures.items)

pub returns-clause-row : goal.returns-clause-row
returns-clause-row c =
    let number = c.in-Ok.ensures.1 in
    let len = c.len.ensures in
    let count = c.push.new.self.ok in
    omega (arith, number, len, count)

pub returns-clause-same : goal.returns-clause-same
returns-clause-same c =
    let more = c.args.more.now.items in
    let number = c.in-Ok.ensures.1 in
    let len = c.len.ensures in
    let longer = c.in_ok-push.ensures.len in
    let count = c.args.more.now.ok in
    let new_count = c.push.new.self.ok in
    let last : c.in-Ok.number ≡ length more + 1 = omega (arith, number, len, longer, count, new_count) in
    row_same more _ c.args.entry c.key_or_blank-left.result c.key_or_blank-right.result c.in-Ok.number _ _ _ _ _ _ last c.is_some.ensures c.is_some-2.ensures c.is_some-3.ensures c.is_some-4.ensures
    c.unwrap_or.ensures c.unwrap_or-2.ensures c.key_or_blank-left.ensures c.key_or_blank-right.ensures c.in_ok-push.ensures.items
