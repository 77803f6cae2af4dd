use Rattle.std.proofs.Common.{◌≡◌, ◌-◌, ◌≤◌, None, length, drop, replicate}
use Rattle.tl_list_text.proofs.noted.used_pairs.Given as goal

abbrev pub invariant-loop-used : goal.invariant-loop-used
invariant-loop-used l = (l.used ≤ length l.pairs) × (drop l.used l.pairs ≡ replicate (length l.pairs - l.used) None)

abbrev pub decreases-loop-used : goal.decreases-loop-used
decreases-loop-used l = l.used
