use Rattle.std.proofs.lemmas.Result.{err_from_is_err_and}
use Rattle.std.specs.Prelude.{option_copied}
use Rattle.tigertopo_faults.specs.Records.SpokenOf.{chains_of}
use Rattle.tigertopo_faults.proofs.WantedLemmas.{has_more, has_all}
use Rattle.tigertopo_faults.proofs.records.wanted.wanted_subjects.Goals as goal

pub loop-fault-preserved : goal.loop-fault-preserved
loop-fault-preserved c =
    has_more (chains_of (option_copied c.args.map)) c.args.faults.now c.loop-fault.subjects.keys c.want.new.subjects.keys c.want-in-loop-fault.new.subjects.keys c.loop-fault.fault-index c.fault-item.result
    c.subjects_of-first.result c.loop-fault-test.true c.fault-item.is c.subjects_of-first.ensures c.in_ok-want.ensures.kept c.in_ok-want.ensures.added c.in_ok-want-2.ensures.kept c.in_ok-want-2.ensures.added c.loop-fault.invariant

pub returns : goal.returns
returns c = has_all (chains_of (option_copied c.args.map)) c.args.faults.now c.loop-fault.subjects.keys c.loop-fault.fault-index c.loop-fault-test.false c.loop-fault.invariant

pub returns-in_err-want : goal.returns-in_err-want
returns-in_err-want c = let p = err_from_is_err_and c.from_residual.result c.from_residual.ensures.1 in rw p.1 tt

pub returns-in_err-want-2 : goal.returns-in_err-want-2
returns-in_err-want-2 c = let p = err_from_is_err_and c.from_residual-in_err-want-2.result c.from_residual-in_err-want-2.ensures.1 in rw p.1 tt
