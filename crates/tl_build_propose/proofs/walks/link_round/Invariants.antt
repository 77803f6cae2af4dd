use Rattle.std.proofs.Common.{◌≡◌, ◌<◌, length}
use Rattle.std.specs.List.{All}
use Rattle.tl_check_sides.specs.Lists.{before}
use Rattle.tl_build_propose.specs.Keeping.Lists.{darts_in}
use Rattle.tl_build_propose.proofs.LinkLemmas.{LinkedUpTo}
use Rattle.tl_build_propose.proofs.walks.link_round.Given as goal

abbrev pub invariant-loop-start : goal.invariant-loop-start
invariant-loop-start l =
    record {
      before : l.before ≡ before (darts_in l.round) l.start-index;
      kept : All (λ d. d < length l.fn.following) l.following;
      linked : LinkedUpTo l.fn.following l.following (darts_in l.round) l.start-index;
    }
