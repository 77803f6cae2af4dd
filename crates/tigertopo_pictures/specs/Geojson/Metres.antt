-- The area of a polygon in square metres, rounded.
--
-- A degree is taken as long as it is at the latitude φ of the polygon's point: by the usual series for the ellipsoid of NAD83,
-- 111132.954 - 559.822 cos 2φ metres to the north, and 111412.84 cos φ - 93.5 cos 3φ metres to the east. With c = cos φ these are
-- 111692.78 - 1119.64 c² and c (111693.34 - 374.00 c²). At that latitude a square degree is so right to two hundred-thousandths
-- up to 72 degrees, and to two thousandths up to 89.
use Rattle.std.specs.Prelude.{ℕ, ◌+◌, ◌-◌, ◌*◌, ◌/◌, ◌==◌, ◌&&◌, not, Bool, min, ℤ, pos, unsigned_abs, int_lt, List, ◌++◌, decimal}
use Rattle.tigertopo_pictures.specs.Geojson.Positions.{sign_text}

-- so many thousand-millionths of a number
abbrev pub part_of : (u n : ℕ) → ℕ
part_of u n = u * n / 1000000000

-- the square of how far a latitude is from the equator, where the pole is at 1, in thousand-millionths; of millionths of a degree
abbrev pub squared : ℕ → ℕ
squared y = y * y / 8100000

-- the cosine, in thousand-millionths, of a latitude whose square this is: Taylor's polynomial, with powers of π/2 before its terms. It is off by
-- less than three hundred-thousandths anywhere, and by less than a millionth up to 60 degrees
abbrev pub cosine : ℕ → ℕ
cosine u = 1000000000 - part_of u (1233700550 - part_of u (253669507 - part_of u (20863481 - part_of u 919260)))

-- a degree to the north where the square of the cosine is this, and one to the east without the cosine, in hundredths of a metre
abbrev pub north : ℕ → ℕ
north squared = 11169278 - part_of squared 111964

abbrev pub east : ℕ → ℕ
east squared = 11169334 - part_of squared 37400

-- a square degree, in ten-thousandths of a square metre, where the cosine is this
abbrev pub square_degree : ℕ → ℕ
square_degree c = part_of c (north (part_of c c) * east (part_of c c))

-- the latitude's distance from the equator, the pole's at most
abbrev pub distance : ℤ → ℕ
distance y = min (unsigned_abs y) 90000000

-- an area in square metres by that square degree, as a whole number, of which this is twice the size in square millionths of a degree
abbrev pub metres : (size : ℕ) → (latitude : ℤ) → ℕ
metres size y = (size * square_degree (cosine (squared (distance y))) + 10000000000000000) / 20000000000000000

-- is it told with a sign: it is below 0, and isn't told as 0
abbrev pub has_sign : (doubled : ℤ) → (whole : ℕ) → Bool
has_sign doubled whole = int_lt doubled (pos 0) && not (whole == 0)

-- the same as it is told
abbrev pub metres_text : (doubled latitude : ℤ) → List ℕ
metres_text doubled y = let whole = metres (unsigned_abs doubled) y in sign_text (has_sign doubled whole) ++ decimal whole
