use Rattle.std.proofs.Common.{sym, ◌∙◌}
use Rattle.std.proofs.lemmas.Result.{err_from_is_err_and}
use Rattle.tigertopo_faults.proofs.KeptLemmas.{inserted}
use Rattle.tigertopo_faults.proofs.records.wanted.want.Goals as goal

pub returns-in_ok-insert-clause-added : goal.returns-in_ok-insert-clause-added
returns-in_ok-insert-clause-added c = λ s is. inserted c.args.subjects.now.keys c.insert.new.self.keys c.in-Some.subject s c.in_ok-insert.ensures.keys (sym c.in-Some.is ∙ is)

pub returns-in_err-insert : goal.returns-in_err-insert
returns-in_err-insert c = let p = err_from_is_err_and c.from_residual.result c.from_residual.ensures.1 in rw p.1 (record { kept = tt; added = tt })
