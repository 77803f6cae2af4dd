use Rattle.tigertopo_faults.proofs.TellingLemmas.{IsLeft}
use Rattle.tigertopo_faults.proofs.records.telling.told.Given as goal

abbrev pub invariant-loop-place : goal.invariant-loop-place
invariant-loop-place l = IsLeft l.telling l.rtsq l.lines l.before l.place
