use Rattle.std.proofs.lemmas.Result.{err_from_is_err_and}
use Rattle.tigertopo_faults.proofs.KeptLemmas.{noted_then}
use Rattle.tigertopo_faults.proofs.records.kept.KeptLines.note.Goals as goal

pub returns : goal.returns
returns c =
    noted_then c.args.self.now c.add.new.self c.add-2.new.self c.subjects_naming-narrow.result c.args.line c.args.holds c.add-2.result c.subjects_naming-narrow.ensures c.in_ok-add.ensures c.add-2.ensures

pub returns-in_err-add : goal.returns-in_err-add
returns-in_err-add c = let p = err_from_is_err_and c.from_residual.result c.from_residual.ensures.1 in rw p.1 tt
