use Rattle.std.proofs.Common.{◌≡◌, All, length}
use Rattle.tl_check_points.specs.Keeping.Balances.{AreAmong}
use Rattle.tl_check_points.specs.Keeping.Short.{AreSettled}
use Rattle.tl_check_points.proofs.short.settle_all.Given as goal

-- the flanks so far are settled
abbrev pub invariant-loop-place : goal.invariant-loop-place
invariant-loop-place l = record {
  nears : length l.near ≡ length l.fn.near;
  fars : length l.far ≡ length l.fn.near;
  settled : AreSettled l.journal l.short.items l.near l.far l.place;
  among : All (AreAmong (length l.fn.near)) l.short.items;
}
