use Rattle.std.proofs.Common.{◌≡◌, length, drop}
use Rattle.tl_check_inside.specs.Keeping.Tallies.{AreTallies}
use Rattle.tl_check_inside.proofs.tallies.take_back.Given as goal

-- the flanks still to come are counted
abbrev pub invariant-loop-place : goal.invariant-loop-place
invariant-loop-place l = record {
  nears : length l.near ≡ length l.fn.near;
  fars : length l.far ≡ length l.fn.far;
  tallies : AreTallies (drop l.place l.crossed) l.near l.far;
}
