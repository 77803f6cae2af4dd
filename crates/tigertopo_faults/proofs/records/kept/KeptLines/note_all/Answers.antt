use Rattle.std.proofs.Common.{arith}
use Rattle.std.proofs.lemmas.Result.{err_from_is_err_and}
use Rattle.tigertopo_faults.proofs.KeptLemmas.{noted_more}
use Rattle.tigertopo_faults.proofs.records.kept.KeptLines.note_all.Goals as goal

pub loop-place-preserved : goal.loop-place-preserved
loop-place-preserved c =
    noted_more c.args.self.now c.loop-place.self c.note.new.self c.args.found.now c.loop-place.place c.get-line.result (omega (arith, c.loop-place-test.true, c.len-place-end.ensures)) (c.get-line.ensures _) c.loop-place.invariant
    c.in_ok-note.ensures

pub returns-in_err-note : goal.returns-in_err-note
returns-in_err-note c = let p = err_from_is_err_and c.from_residual.result c.from_residual.ensures.1 in rw p.1 tt
