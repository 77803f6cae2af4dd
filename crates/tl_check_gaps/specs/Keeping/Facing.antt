-- The places along a list where facing sides differ, and the sides of segments by their heights.
use Rattle.std.specs.Prelude.{◌≡◌, ℕ, ◌+◌, ◌==◌, Bool, true, false, if◌then◌else◌, Option, Some, List, [], ◌∷◌, map}
use Rattle.tl_geom.specs.declared.point.Point.{Point}
use Rattle.tl_map_county.specs.declared.sides.Side.{Side}
use Rattle.tl_map_county.specs.declared.sides.Side.TheVariants.{Outside, Polygon}
use Rattle.tl_map_county.specs.TheMap.{MapChain}
use Rattle.tl_check_inside.specs.Inside.{flanks_at}
use Rattle.tl_check_planar.specs.ByHeight.Heights.{height, widest}

-- two sides are one
abbrev pub are_one : (west east : Side) → Bool
are_one Outside Outside = true
are_one Outside (Polygon q) = false
are_one (Polygon p) Outside = false
are_one (Polygon p) (Polygon q) = p == q

-- 1 where sides that face each other differ, else 0
abbrev pub gap : (west east : Side) → ℕ
gap west east = if are_one west east then 0 else 1

-- how often they do along a list that stands between one side and another
abbrev pub gaps_between : List MapChain → Side → List ℕ → Side → ℕ
gaps_between chains west [] east = gap west east
gaps_between chains west (s ∷ rest) east = gap west (flanks_at chains s).near + gaps_between chains (flanks_at chains s).far rest east

-- how often they do along a list that stands in the outside
abbrev pub gaps_of : List MapChain → List ℕ → ℕ
gaps_of chains list = gaps_between chains Outside list Outside

-- what lies east of a list that stands east of one side: the far side of its last segment, if there is one
abbrev pub last_far : List MapChain → Side → List ℕ → Side
last_far chains west [] = west
last_far chains west (s ∷ rest) = last_far chains (flanks_at chains s).far rest

-- the chains with heights in the place of latitudes: there the flanks of a segment are its sides by height
abbrev pub raised_point : Point → Point
raised_point p = record { x = p.x; y = height widest p }

abbrev pub raised_chain : MapChain → MapChain
raised_chain c = record {
  tlid = c.tlid;
  points = map raised_point c.points;
  left = c.left;
  right = c.right;
  start_cell = c.start_cell;
  end_cell = c.end_cell;
}

abbrev pub raised : List MapChain → List MapChain
raised chains = map raised_chain chains

-- if there is a count, it is that of the list, by the sides by height
abbrev pub IsCounted : List MapChain → Option ℕ → List ℕ → Type 0
IsCounted chains count list = (n : ℕ) → count ≡ Some n → n ≡ gaps_of (raised chains) list
