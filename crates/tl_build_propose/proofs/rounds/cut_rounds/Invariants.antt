use Rattle.std.proofs.Common.{◌≡◌, zero, ◌<◌, ◌++◌, length, map}
use Rattle.std.specs.List.{concat, All}
use Rattle.tl_build_propose.specs.Keeping.Lists.{darts_in, lists_in}
use Rattle.tl_build_propose.specs.Keeping.Sorting.{AreSorted, AreCut}
use Rattle.tl_build_propose.proofs.rounds.cut_rounds.Given as goal

abbrev pub invariant-loop-rest : goal.invariant-loop-rest
invariant-loop-rest l =
    record {
      cut : concat (map (λ r. r.items) l.rounds.items) ++ darts_in l.rest ≡ darts_in l.starts;
      some : All (λ r. zero < length r.items) l.rounds.items;
      grouped : AreSorted l.starts → AreCut l.starts l.rest (lists_in l.rounds.items);
    }

abbrev pub decreases-loop-rest : goal.decreases-loop-rest
decreases-loop-rest l = length l.rest
