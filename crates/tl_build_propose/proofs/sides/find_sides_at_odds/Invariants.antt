use Rattle.std.proofs.Common.{ℕ, ◌<◌}
use Rattle.tl_check_sides.specs.Lists.{list_at}
use Rattle.tl_build_propose.specs.Keeping.Lists.{lists_in}
use Rattle.tl_build_propose.specs.Keeping.Siding.{HasOneLeft}
use Rattle.tl_build_propose.proofs.sides.find_sides_at_odds.Given as goal

-- the walks so far have one side on their left each
abbrev pub invariant-loop-walk : goal.invariant-loop-walk
invariant-loop-walk l = (k : ℕ) → k < l.walk-index → HasOneLeft l.map.chains (list_at (lists_in l.walks) k)
