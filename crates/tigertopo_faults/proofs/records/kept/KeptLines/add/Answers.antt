use Rattle.std.proofs.Common.{refl, arith}
use Rattle.std.proofs.lemmas.Result.{err_from_is_err_and}
use Rattle.tigertopo_faults.proofs.KeptLemmas.{derived_index, grown}
use Rattle.tigertopo_faults.proofs.records.kept.KeptLines.add.Goals as goal

pub returns-in_ok-push-in-Some-get_index_of : goal.returns-in_ok-push-in-Some-get_index_of
returns-in_ok-push-in-Some-get_index_of c =
    let index = derived_index c.args.self.now.subjects.keys c.in-Some.subject _ c.in-Some-get_index_of.ensures.index in
    rw c.in-Some.is (record {
      wanted = λ s. refl;
      lines = λ s wanted. grown c.args.self.now.subjects.keys c.args.self.now.lines.items c.in-Some.subject s c.in-Some-get_index_of.number c.index_mut.result.now c.push.new.self c.args.line index (omega arith) c.index_mut.ensures.value c.in_ok-push-in-Some-get_index_of.ensures.items wanted;
    })

pub returns-in_err-push-in-Some-get_index_of : goal.returns-in_err-push-in-Some-get_index_of
returns-in_err-push-in-Some-get_index_of c = let p = err_from_is_err_and c.from_residual.result c.from_residual.ensures.1 in rw p.1 tt
