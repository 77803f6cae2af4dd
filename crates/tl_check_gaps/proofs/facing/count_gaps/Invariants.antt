use Rattle.std.proofs.Common.{◌≡◌, ◌+◌, drop}
use Rattle.tl_check_gaps.specs.Keeping.Facing.{gaps_between, raised}
use Rattle.tl_check_gaps.proofs.facing.count_gaps.Given as goal

-- what is counted so far and what is left make up all
abbrev pub invariant-loop-s : goal.invariant-loop-s
invariant-loop-s l = l.count + gaps_between (raised l.map.chains) l.before (drop l.s-index l.list) l.east ≡ gaps_between
    (raised l.map.chains) l.fn.west l.list l.east
