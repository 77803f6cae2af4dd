use Rattle.std.proofs.Common.{take}
use Rattle.tl_check_inside.specs.Keeping.Tallies.{flanks_in}
use Rattle.tl_check_gaps.specs.Keeping.Facing.{raised}
use Rattle.tl_check_points.specs.Keeping.Balances.{LeadsTo}
use Rattle.tl_check_points.proofs.agreeing.walk.Given as goal

-- the segments so far lead to the side
abbrev pub invariant-loop-s : goal.invariant-loop-s
invariant-loop-s l = LeadsTo (flanks_in (raised l.map.chains) (take l.s-index l.list)) l.fn.from l.side
