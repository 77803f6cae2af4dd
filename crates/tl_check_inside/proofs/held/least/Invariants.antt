use Rattle.std.proofs.Common.{◌≡◌, MatchOption}
use Rattle.tl_check_inside.specs.Keeping.Listed.{IsLeastOf}
use Rattle.tl_check_inside.proofs.held.least.Given as goal

-- the least of those so far
abbrev pub invariant-loop-number : goal.invariant-loop-number
invariant-loop-number l = MatchOption l.least (l.number-index ≡ 0) (IsLeastOf l.numbers l.number-index)
