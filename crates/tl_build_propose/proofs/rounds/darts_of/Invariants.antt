use Rattle.std.proofs.Common.{◌≡◌, take}
use Rattle.tl_build_propose.specs.Keeping.Lists.{darts_in}
use Rattle.tl_build_propose.proofs.rounds.darts_of.Given as goal

abbrev pub invariant-loop-start : goal.invariant-loop-start
invariant-loop-start l = l.darts.items ≡ darts_in (take l.start-index l.starts)
