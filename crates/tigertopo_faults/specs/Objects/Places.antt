-- Where a fault lies.
use Rattle.std.specs.Prelude.{ℕ, ℤ, List, ◌++◌, Option, None, Some, codes, if◌then◌else◌}
use Rattle.std.specs.Fmt.{signed_decimal}
use Rattle.tl_geom.specs.declared.rational.Rational.{Rational}
use Rattle.tigertopo_faults.specs.Places.Degrees.{is_in_reach}
use Rattle.tigertopo_faults.specs.Geojson.Places.{position_text}

-- a fraction of millionths of a degree
unfoldable pub fraction_text : (x d : ℤ) → List ℕ
fraction_text x d = codes "\"" ++ signed_decimal x ++ codes "/" ++ signed_decimal d ++ codes "\""

-- a place exactly: the longitude, then the latitude
unfoldable pub fractions_text : Rational → List ℕ
fractions_text at = codes "[" ++ fraction_text at.x at.d ++ codes "," ++ fraction_text at.y at.d ++ codes "]"

-- the same in degrees, or null where it can't be printed
abbrev pub degrees_text : Rational → List ℕ
degrees_text at = if is_in_reach at then position_text at else codes "null"

-- where a fault lies, or null where it has no place
abbrev pub place_text : Option Rational → List ℕ
place_text None = codes "null"
place_text (Some at) = codes "{\"exact\":" ++ fractions_text at ++ codes ",\"degrees\":" ++ degrees_text at ++ codes "}"
