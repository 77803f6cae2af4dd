-- Where a fault lies.
use Rattle.std.specs.Prelude.{ℕ, List, ◌++◌, Option, None, Some, codes, if◌then◌else◌}
use Rattle.tl_geom.specs.declared.rational.Rational.{Rational}
use Rattle.tigertopo_faults.specs.Places.Degrees.{degrees_text, is_in_reach}
use Rattle.tl_check_faces.specs.FaultTexts.{rational_text}

-- a position: the longitude, then the latitude, in degrees with twelve places
unfoldable pub position_text : Rational → List ℕ
position_text at = codes "[" ++ degrees_text 12 at.x at.d ++ codes "," ++ degrees_text 12 at.y at.d ++ codes "]"

-- a point at it
unfoldable pub point_text : Rational → List ℕ
point_text at = codes "{\"type\":\"Point\",\"coordinates\":" ++ position_text at ++ codes "}"

-- the point where a fault lies, or null where it has no place or one that can't be printed
abbrev pub geometry_text : Option Rational → List ℕ
geometry_text None = codes "null"
geometry_text (Some at) = if is_in_reach at then point_text at else codes "null"

-- the same place exactly, in millionths of a degree: two numerators and their denominator
abbrev pub exact_text : Option Rational → List ℕ
exact_text None = codes "null"
exact_text (Some at) = codes "\"" ++ rational_text at ++ codes "\""
