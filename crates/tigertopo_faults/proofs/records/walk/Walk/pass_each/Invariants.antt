use Rattle.std.proofs.Common.{◌≡◌, ◌++◌, ◌+◌, List, drop}
use Rattle.tigertopo_faults.specs.declared.records.walk.HeldPoint.{HeldPoint}
use Rattle.tigertopo_faults.specs.Records.Ends.{pairs_held}
use Rattle.tigertopo_faults.specs.Records.Walking.{going}
use Rattle.tigertopo_faults.proofs.records.walk.Walk.pass_each.Given as goal

abbrev pub invariant-loop-pair : goal.invariant-loop-pair
invariant-loop-pair l = (rest : List HeldPoint) → going l.self (pairs_held l.place (l.pair + 1) (drop l.pair l.pairs) ++ rest) ≡ going l.fn.self (pairs_held l.place 1 l.pairs ++ rest)
