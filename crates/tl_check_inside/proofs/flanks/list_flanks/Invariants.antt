use Rattle.std.proofs.Common.{◌≡◌, take}
use Rattle.tl_check_inside.specs.Keeping.Tallies.{flanks_in}
use Rattle.tl_check_inside.proofs.flanks.list_flanks.Given as goal

-- the sides of the segments so far are listed
abbrev pub invariant-loop-place : goal.invariant-loop-place
invariant-loop-place l = l.flanks.items ≡ flanks_in l.map.chains (take l.place l.segments)
