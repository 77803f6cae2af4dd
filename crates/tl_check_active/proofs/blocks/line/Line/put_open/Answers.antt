use Rattle.std.proofs.Common.{◌+◌, ◌++◌, ◌∷◌, [], take, drop, append_assoc, ap, sym, ◌∙◌}
use Rattle.std.proofs.lemmas.Result.{err_from_is_err_and}
use Rattle.tl_check_active.specs.Blocks.Keeping.Blocks.{numbers_of}
use Rattle.tl_check_active.proofs.BlocksLemmas.Numbers.{put_front, put_back}
use Rattle.tl_check_active.proofs.blocks.line.Line.put_open.Goals as goal

pub returns-clause-front : goal.returns-clause-front
returns-clause-front c =
    let before = numbers_of (take c.self.inside.opened c.self.inside.blocks.items) in
    let items = c.self.inside.items.items in
    let place = c.self.inside.place in
    ap (λ xs. before ++ take (place + 1) xs) c.in_ok-insert.ensures.items ∙ ap (λ xs. before ++ xs) (put_front items place c.args.s c.self.invariant.0) ∙
    sym (append_assoc before (take place items) (c.args.s ∷ [])) ∙ ap (λ l. l.front ++ c.args.s ∷ []) c.self.view_is

pub returns-clause-back : goal.returns-clause-back
returns-clause-back c =
    let behind = numbers_of (drop (c.self.inside.opened + 1) c.self.inside.blocks.items) in
    let place = c.self.inside.place in
    ap (λ xs. drop (place + 1) xs ++ behind) c.in_ok-insert.ensures.items ∙ ap (λ xs. xs ++ behind) (put_back c.self.inside.items.items place c.args.s c.self.invariant.0) ∙ ap (λ l. l.back) c.self.view_is

pub returns-in_err-insert-clause-front : goal.returns-in_err-insert-clause-front
returns-in_err-insert-clause-front c = let p = err_from_is_err_and c.from_residual.result c.from_residual.ensures.1 in rw p.1 tt

pub returns-in_err-insert-clause-back : goal.returns-in_err-insert-clause-back
returns-in_err-insert-clause-back c = let p = err_from_is_err_and c.from_residual.result c.from_residual.ensures.1 in rw p.1 tt
