use Rattle.std.proofs.Common.{length, ◌∙◌, rules}
use Rattle.std.proofs.lemmas.Result.{err_from_is_err_and}
use Rattle.tl_build_propose.proofs.MarkFacts.{free_marks}
use Rattle.tl_build_propose.proofs.walks.trace_walks.Goals as goal

pub trace_all-requires-clause-free : goal.trace_all-requires-clause-free
trace_all-requires-clause-free c =
    free_marks (length c.args.following.now) _ (c.deref_mut.ensures.value ∙ c.in_ok-taken.ensures.items_if_clones_equal (λ x e. search rules))

pub returns-in_err-taken-clause-hold : goal.returns-in_err-taken-clause-hold
returns-in_err-taken-clause-hold c = let p = err_from_is_err_and c.from_residual.result c.from_residual.ensures.1 in rw p.1 tt

pub returns-in_err-taken-clause-some : goal.returns-in_err-taken-clause-some
returns-in_err-taken-clause-some c = let p = err_from_is_err_and c.from_residual.result c.from_residual.ensures.1 in rw p.1 tt

pub returns-in_err-taken-clause-counted : goal.returns-in_err-taken-clause-counted
returns-in_err-taken-clause-counted c = let p = err_from_is_err_and c.from_residual.result c.from_residual.ensures.1 in rw p.1 tt

pub returns-in_err-taken-clause-goes : goal.returns-in_err-taken-clause-goes
returns-in_err-taken-clause-goes c = let p = err_from_is_err_and c.from_residual.result c.from_residual.ensures.1 in rw p.1 tt
