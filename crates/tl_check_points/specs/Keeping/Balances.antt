-- Flanks that have near and far sides equally often, or differ by as many of both.
use Rattle.std.specs.Prelude.{◌≡◌, ℕ, ◌+◌, Bool, false, if◌then◌else◌, List}
use Rattle.tl_map_county.specs.declared.sides.Side.{Side}
use Rattle.tl_map_county.specs.declared.sides.Side.TheVariants.{Outside}
use Rattle.tl_map_county.specs.Sides.{IsSideAmong}
use Rattle.tl_check_inside.specs.declared.flanks.Flanks.{Flanks}
use Rattle.tl_check_inside.specs.Keeping.Tallies.{near_count, far_count}

-- each of both sides is the outside or one of the first n polygons
pub record AreAmong (n : ℕ) (flanks : Flanks) : Type 0 where
  pub near : IsSideAmong n flanks.near
  pub far : IsSideAmong n flanks.far

-- both have any sides but the outside as much more often near than far
abbrev pub HaveOneBalance : (one other : List Flanks) → Type 0
HaveOneBalance one other =
    (S : Side → Bool) → S Outside ≡ false → near_count one S + far_count other S ≡ far_count one S + near_count other S

-- these lead from one side to another: any sides are as often near as far, but that the one comes first and the other last
abbrev pub LeadsTo : List Flanks → (from to : Side) → Type 0
LeadsTo flanks from to =
    (S : Side → Bool) → near_count flanks S + (if S to then 1 else 0) ≡ far_count flanks S + (if S from then 1 else 0)
