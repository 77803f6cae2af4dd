-- The parts that a joined map is joined from: whose its polygons are, what each part tells, and what is left for their borders.
use Rattle.std.specs.Prelude.{⊤, ℕ, ◌<◌, Bool, true, false, not, ◌==◌, ◌&&◌, ◌||◌, if◌then◌else◌, IsTrue}
use Rattle.tl_map_county.specs.declared.sides.Side.{Side}
use Rattle.tl_map_county.specs.declared.sides.Side.TheVariants.{Outside, Polygon}
use Rattle.tl_map_county.specs.TheMap.{MapChain}

-- of each polygon of a joined map the part that it is of and its number there, and by its TLID the part of a chain that names no polygon
pub record Homes : Type 0 where
  pub part : ℕ → ℕ
  pub number : ℕ → ℕ
  pub teller : ℕ → ℕ

-- the side is a polygon of part k
abbrev pub is_of : Homes → ℕ → Side → Bool
is_of homes k Outside = false
is_of homes k (Polygon p) = homes.part p == k

-- the side is no polygon
abbrev pub is_blank : Side → Bool
is_blank Outside = true
is_blank (Polygon p) = false

-- it is one
abbrev pub is_named : Side → Bool
is_named s = not (is_blank s)

-- what part k itself names there: its own polygon by the number that it has in the part, and nothing where another's is
abbrev pub own : Homes → ℕ → Side → Side
own homes k Outside = Outside
own homes k (Polygon p) = if homes.part p == k then Polygon (homes.number p) else Outside

-- part k tells the chain: it names a polygon of that part, or it names none and is of that part
abbrev pub tells : Homes → ℕ → MapChain → Bool
tells homes k c = is_of homes k c.left || (is_of homes k c.right || (is_blank c.left && (is_blank c.right && homes.teller c.tlid == k)))

-- the part of what is named there, as one polygon
abbrev pub name : Homes → Side → Side
name homes Outside = Outside
name homes (Polygon p) = Polygon (homes.part p)

-- two polygons are named, of one part
abbrev pub are_of_one : Homes → Side → Side → Bool
are_of_one homes Outside other = false
are_of_one homes (Polygon p) Outside = false
are_of_one homes (Polygon p) (Polygon q) = homes.part p == homes.part q

-- the chain is of a border: its sides aren't both of one part
abbrev pub is_border : Homes → MapChain → Bool
is_border homes c = not (are_of_one homes c.left c.right)

-- the side is the outside, or a polygon of one of the first n parts
abbrev pub IsOfParts : Homes → ℕ → Side → Type 0
IsOfParts homes n Outside = ⊤
IsOfParts homes n (Polygon p) = homes.part p < n

-- the chain names polygons of the first n parts alone, and is of one of them if it names none
pub record IsToldByParts (homes : Homes) (n : ℕ) (chain : MapChain) : Type 0 where
  pub left : IsOfParts homes n chain.left
  pub right : IsOfParts homes n chain.right
  pub blank : IsTrue (is_blank chain.left) → IsTrue (is_blank chain.right) → homes.teller chain.tlid < n
