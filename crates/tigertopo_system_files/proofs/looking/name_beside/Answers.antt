use Rattle.std.proofs.Common.{ℕ, List, ◌++◌, codes, ap, ◌∙◌}
use Rattle.std.proofs.lemmas.Result.{err_from_is_err_and}
use Rattle.tigertopo_system_files.proofs.looking.name_beside.Goals as goal

pub returns-in_err-other : goal.returns-in_err-other
returns-in_err-other c = let p = err_from_is_err_and c.from_residual.result c.from_residual.ensures.1 in rw p.1 tt

pub returns-in_err-push_str : goal.returns-in_err-push_str
returns-in_err-push_str c =
    let p = err_from_is_err_and c.from_residual-in_err-push_str.result c.from_residual-in_err-push_str.ensures.1 in rw p.1 tt

pub returns : goal.returns
returns c = c.in_ok-push_str.ensures.bytes ∙ ap (λ (front : List ℕ). front ++ codes ".unfinished") c.in_ok-other.ensures.ok
