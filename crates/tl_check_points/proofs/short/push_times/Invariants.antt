use Rattle.std.proofs.Common.{◌≡◌, ◌+◌, ℕ, Bool, if◌then◌else◌, All, count_by}
use Rattle.tl_check_inside.specs.declared.flanks.Flanks.{Flanks}
use Rattle.tl_check_points.specs.Keeping.Balances.{AreAmong}
use Rattle.tl_check_points.proofs.short.push_times.Given as goal

-- they are listed so many times
abbrev pub invariant-loop-time : goal.invariant-loop-time
invariant-loop-time l = record {
  counted : (P : Flanks → Bool) → count_by P l.short.items ≡ count_by P l.fn.short.items + (if P l.flanks then l.time else 0);
  among : (n : ℕ) → AreAmong n l.flanks → All (AreAmong n) l.fn.short.items → All (AreAmong n) l.short.items;
}
