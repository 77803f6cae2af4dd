use Rattle.tl_build_propose.proofs.LinkLemmas.{AreLinkedSoFar}
use Rattle.std.proofs.Common.{length}
use Rattle.tl_build_propose.proofs.walks.link_rounds.Given as goal

abbrev pub invariant-loop-rest : goal.invariant-loop-rest
invariant-loop-rest l = AreLinkedSoFar (length l.fn.following) l.starts l.rest l.following

abbrev pub decreases-loop-rest : goal.decreases-loop-rest
decreases-loop-rest l = length l.rest
