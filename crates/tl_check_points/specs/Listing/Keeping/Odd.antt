-- Polygons that are listed because they are near and far not equally often.
use Rattle.std.specs.Prelude.{◌≡◌, ℕ, ◌≤◌, true, List, All, Contains}
use Rattle.tl_map_county.specs.declared.sides.Side.{Side}
use Rattle.tl_check_inside.specs.declared.flanks.Flanks.{Flanks}
use Rattle.tl_check_inside.specs.Inside.{is_polygon}
use Rattle.tl_check_inside.specs.Keeping.Tallies.{near_count, far_count, IsOdd}

-- the polygon on the side is appended if it is odd, and else nothing
pub record IsKeptIfOdd (near far : List ℕ) (own : ℕ) (side : Side) (old new : List ℕ) : Type 0 where
  pub kept : (q : ℕ) → Contains old q → Contains new q
  pub each : All (IsOdd near far own) old → All (IsOdd near far own) new
  pub all : (q : ℕ) → is_polygon q side ≡ true → IsOdd near far own q → Contains new q

-- each of these is odd, and the odd ones on these flanks are among them
pub record AreOddOf (near far : List ℕ) (own : ℕ) (crossed : List Flanks) (odd : List ℕ) : Type 0 where
  pub each : All (IsOdd near far own) odd
  pub nears : (q : ℕ) → 1 ≤ near_count crossed (is_polygon q) → IsOdd near far own q → Contains odd q
  pub fars : (q : ℕ) → 1 ≤ far_count crossed (is_polygon q) → IsOdd near far own q → Contains odd q
