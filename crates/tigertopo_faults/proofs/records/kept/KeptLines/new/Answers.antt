use Rattle.std.proofs.Common.{◌∷◌, [], length, ap, arith, length-append}
use Rattle.std.proofs.lemmas.Result.{err_from_is_err_and}
use Rattle.tigertopo_faults.proofs.KeptLemmas.{empty_more, holds_none}
use Rattle.tigertopo_faults.proofs.WantedLemmas.{numbered}
use Rattle.tigertopo_faults.proofs.records.kept.KeptLines.new.Goals as goal

pub returns-clause-wanted : goal.returns-clause-wanted
returns-clause-wanted c = λ s has. numbered c.args.subjects.keys s has

pub returns-clause-empty : goal.returns-clause-empty
returns-clause-empty c = λ s. holds_none c.loop.lines.items _ c.loop.invariant.empty

pub returns-in_err-lines : goal.returns-in_err-lines
returns-in_err-lines c = let p = err_from_is_err_and c.from_residual.result c.from_residual.ensures.1 in rw p.1 (record { wanted = tt; empty = tt })

pub returns-in_err-push : goal.returns-in_err-push
returns-in_err-push c = let p = err_from_is_err_and c.from_residual-in_err-push.result c.from_residual-in_err-push.ensures.1 in rw p.1 (record { wanted = tt; empty = tt })

pub loop-init : goal.loop-init
loop-init c = record {
  count = ap length c.in_ok-lines.ensures.items;
  empty = rw c.in_ok-lines.ensures.items (λ i v is. absurd (let wrong = is in cc));
}

pub loop-preserved : goal.loop-preserved
loop-preserved c = record {
  count = rw c.in_ok-push.ensures.items (omega (arith, length-append c.loop.lines.items (c.new.result ∷ []), c.loop.invariant.count));
  empty = rw c.in_ok-push.ensures.items (empty_more c.loop.lines.items c.new.result c.new.ensures.items c.loop.invariant.empty);
}

pub invariant_of-result : goal.invariant_of-result
invariant_of-result c = record { paired = omega (arith, c.loop.invariant.count, c.loop.auto.counter-end, c.loop-test.false, c.len-end.ensures.len) }
