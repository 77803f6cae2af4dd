use Rattle.std.proofs.Common.{◌≡◌}
use Rattle.tl_check_inside.specs.Keeping.Listed.{passing, differ_at}
use Rattle.tl_check_inside.proofs.listing.unbalanced.Given as goal

-- those so far are listed
abbrev pub invariant-loop-p : goal.invariant-loop-p
invariant-loop-p l = l.listed.items ≡ passing (differ_at l.near l.far) l.p
