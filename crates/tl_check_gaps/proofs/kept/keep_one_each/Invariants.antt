use Rattle.tl_check_gaps.specs.Keeping.Kept.{AreKeptOf}
use Rattle.tl_check_gaps.proofs.kept.keep_one_each.Given as goal

-- those of the gaps so far
abbrev pub invariant-loop-k : goal.invariant-loop-k
invariant-loop-k l = AreKeptOf l.k l.gaps l.kept.items
