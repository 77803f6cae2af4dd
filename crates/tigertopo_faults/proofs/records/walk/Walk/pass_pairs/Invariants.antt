use Rattle.std.proofs.Common.{◌≡◌, ◌++◌, ◌+◌, ◌-◌, List, length}
use Rattle.std.specs.Prelude.{min}
use Rattle.tigertopo_faults.specs.declared.records.walk.HeldPoint.{HeldPoint}
use Rattle.tigertopo_faults.specs.Records.Ends.{pairs_from}
use Rattle.tigertopo_faults.specs.Records.Walking.{going}
use Rattle.tigertopo_faults.proofs.records.walk.Walk.pass_pairs.Given as goal

abbrev pub invariant-loop-number : goal.invariant-loop-number
invariant-loop-number l = (rest : List HeldPoint) → going l.self (pairs_from l.telling l.lines (min (length l.lines) 999 - l.number) (l.number + 1) ++ rest) ≡ going l.fn.self (pairs_from l.telling l.lines (min (length l.lines) 999) 1 ++ rest)
