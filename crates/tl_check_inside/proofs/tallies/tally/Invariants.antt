use Rattle.std.proofs.Common.{◌≡◌, length, take}
use Rattle.tl_check_inside.specs.Keeping.Tallies.{AreTallies}
use Rattle.tl_check_inside.proofs.tallies.tally.Given as goal

-- the flanks so far are counted
abbrev pub invariant-loop-place : goal.invariant-loop-place
invariant-loop-place l = record {
  nears : length l.near ≡ length l.fn.near;
  fars : length l.far ≡ length l.fn.far;
  tallies : AreTallies (take l.place l.crossed) l.near l.far;
}
