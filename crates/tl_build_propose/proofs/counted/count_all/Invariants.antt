use Rattle.tl_build_propose.specs.Keeping.Counted.{AreCounted}
use Rattle.tl_build_propose.proofs.counted.count_all.Given as goal

-- the walks so far have one side on their left each, and are so many
abbrev pub invariant-loop-first : goal.invariant-loop-first
invariant-loop-first l = AreCounted l.map.chains l.following l.taken l.first l.count
