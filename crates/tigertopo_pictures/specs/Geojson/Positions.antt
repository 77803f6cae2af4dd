-- Positions of GeoJSON.
use Rattle.std.specs.Prelude.{ℕ, ◌+◌, ◌/◌, ◌%◌, List, [], ◌∷◌, ◌++◌, ℤ, pos, int_lt, Bool, if◌then◌else◌, unsigned_abs, codes, decimal}
use Rattle.tl_geom.specs.declared.point.Point.{Point}
use Rattle.std.specs.List.{flat_map}
use Rattle.tigertopo_pictures.specs.Rings.{ThePen}

-- the sign of a number that is below 0 or isn't
abbrev pub sign_text : Bool → List ℕ
sign_text is_below = if is_below then codes "-" else []

-- the six digits of a number below a million
abbrev pub six_digits : ℕ → List ℕ
six_digits n =
    (48 + n / 100000) ∷ (48 + n / 10000 % 10) ∷ (48 + n / 1000 % 10) ∷ (48 + n / 100 % 10) ∷ (48 + n / 10 % 10) ∷ (48 + n % 10) ∷ []

-- a coordinate, which is in millionths of a degree, in degrees with six places
unfoldable pub degrees_text : ℤ → List ℕ
degrees_text z = sign_text (int_lt z (pos 0)) ++ decimal (unsigned_abs z / 1000000) ++ codes "." ++ six_digits (unsigned_abs z % 1000000)

-- a position: the longitude, then the latitude
unfoldable pub position_text : Point → List ℕ
position_text point = codes "[" ++ degrees_text point.x ++ codes "," ++ degrees_text point.y ++ codes "]"

-- a position behind a comma
abbrev pub comma_position : Point → List ℕ
comma_position point = codes "," ++ position_text point

-- positions with a comma between two
abbrev pub positions_text : List Point → List ℕ
positions_text [] = []
positions_text (point ∷ rest) = position_text point ++ flat_map comma_position rest

-- how rings are written
abbrev pub positions_pen : ThePen
positions_pen = record { start = position_text; step = λ from to. comma_position to }
