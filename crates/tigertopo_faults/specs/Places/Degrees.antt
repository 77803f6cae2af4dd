-- Places in decimal degrees.
use Rattle.std.specs.Prelude.{ℕ, ℤ, pos, zero, suc, ◌+◌, ◌-◌, ◌*◌, ◌/◌, ◌%◌, ◌^◌, ◌&&◌, ◌==◌, nat_lt, int_lt, unsigned_abs, Bool, List, [], ◌∷◌, ◌++◌, codes, decimal, if◌then◌else◌}
use Rattle.tl_geom.specs.declared.rational.Rational.{Rational}

-- the whole number nearest to a fraction with a denominator above 0, and of two that are as near the greater
abbrev pub nearest : ℕ → ℕ → ℕ
nearest numerator denominator = (2 * numerator + denominator) / (2 * denominator)

-- the digits of a number below a place, from the highest
abbrev pub digits_below : ℕ → ℕ → List ℕ
digits_below zero n = []
digits_below (suc place) n = (48 + n / 10 ^ place % 10) ∷ digits_below place n

-- how far from 0 a coordinate is: of so many millionths of a degree over a denominator, in units of so many decimal places
-- of a degree, six or more
abbrev pub units_of : ℕ → ℤ → ℤ → ℕ
units_of places x d = nearest (unsigned_abs x * 10 ^ (places - 6)) (unsigned_abs d)

-- the sign of a coordinate that isn't printed as 0
abbrev pub sign_of : ℤ → ℕ → List ℕ
sign_of x units = if int_lt x (pos 0) && nat_lt 0 units then codes "-" else []

-- a coordinate in degrees with so many decimal places, rounded to the nearest, half away from zero
unfoldable pub degrees_text : ℕ → ℤ → ℤ → List ℕ
degrees_text places x d =
    sign_of x (units_of places x d) ++ decimal (units_of places x d / 10 ^ places) ++ codes "." ++ digits_below places (units_of places x d)

-- how great a number of a place may be that is printed
abbrev pub reach : ℕ
reach = 2 ^ 100

-- whether a place can be printed: each crossing of two segments can
abbrev pub is_in_reach : Rational → Bool
is_in_reach at = nat_lt (unsigned_abs at.x) reach && nat_lt (unsigned_abs at.y) reach && nat_lt (unsigned_abs at.d) reach

-- does a place lie at whole millionths of a degree
abbrev pub is_whole : Rational → Bool
is_whole at = unsigned_abs at.x % unsigned_abs at.d == 0 && unsigned_abs at.y % unsigned_abs at.d == 0

-- how many decimals it is printed with: at whole millionths six, which are exact, and else ten
abbrev pub decimals_of : Rational → ℕ
decimals_of at = if is_whole at then 6 else 10

-- a place in decimal degrees: the longitude, a comma and the latitude
unfoldable pub location_text : Rational → List ℕ
location_text at = degrees_text (decimals_of at) at.x at.d ++ codes "," ++ degrees_text (decimals_of at) at.y at.d
