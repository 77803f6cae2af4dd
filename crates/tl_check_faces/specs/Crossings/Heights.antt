-- The segments that cross a height, and what lies on their sides.
use Rattle.std.specs.Prelude.{ℤ, int_lt, Bool, not, if◌then◌else◌, List, [], ◌∷◌, ◌++◌}
use Rattle.tl_geom.specs.declared.point.Point.{Point}
use Rattle.tl_map_county.specs.declared.sides.Side.{Side}
use Rattle.tl_map_county.specs.TheMap.{MapChain}
use Rattle.tl_check_inside.specs.declared.flanks.Flanks.{Flanks}
use Rattle.tl_check_inside.specs.Inside.{flanks_between}

-- the point is above the height
abbrev pub is_above : ℤ → Point → Bool
is_above y p = int_lt y p.y

-- one of the points is above the height, and the other is not
abbrev pub parts : ℤ → (p q : Point) → Bool
parts y p q = if is_above y p then not (is_above y q) else is_above y q

-- the flanks of those of the segments from a point by the others that cross the height, in order
abbrev pub crossed_from : ℤ → Point → List Point → (left right : Side) → List Flanks
crossed_from y p [] left right = []
crossed_from y p (q ∷ points) left right =
    if parts y p q then flanks_between p q left right ∷ crossed_from y q points left right else crossed_from y q points left right

-- of the segments of a chain with these points and sides
abbrev pub crossed_along : ℤ → List Point → (left right : Side) → List Flanks
crossed_along y [] left right = []
crossed_along y (p ∷ points) left right = crossed_from y p points left right

-- of the segments of all chains
abbrev pub crossed_at : ℤ → List MapChain → List Flanks
crossed_at y [] = []
crossed_at y (c ∷ chains) = crossed_along y c.points c.left c.right ++ crossed_at y chains
