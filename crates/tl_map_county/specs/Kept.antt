-- Options as they are kept: a part, and whether it is there; and numbers of polygons.
use Rattle.std.specs.Prelude.{◌+◌, ◌^◌, ◌<◌, Bool, if◌then◌else◌, Option, Some, None}
use Rattle.tl_map_county.specs.declared.sides.Side.{Side}
use Rattle.tl_map_county.specs.declared.sides.Side.TheVariants.{Outside, Polygon}

-- the value, where it is there
abbrev pub given : {X : Type 0} → Bool → X → Option X
given is_there x = if is_there then Some x else None

-- the polygon's number, where one lies there, is below the greatest of 32 bits
abbrev pub HasNumber : Side → Type 0
HasNumber Outside = Unit {0}
HasNumber (Polygon n) = n + 1 < 2 ^ 32
