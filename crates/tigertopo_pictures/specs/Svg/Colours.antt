-- The colours of a map's polygons, of which neighbours have different ones.
--
-- Polygons and colours are numbered from 0. Each polygon has the least colour that no neighbour with a lower number has.
use Rattle.std.specs.Prelude.{◌≡◌, ◌≢◌, ◌⊎◌, ℕ, ◌<◌, ◌*◌, ◌%◌, List, [], ◌∷◌, ◌++◌, length, slice_index, slice_index_or, Option, Some, None}
use Rattle.tl_map_county.specs.TheMap.{MapChain}
use Rattle.tl_map_county.specs.Darts.{dart_left, reverse_dart}
use Rattle.tigertopo_pictures.specs.Walks.{polygon_on}

-- the polygon on the left of a dart, and on its right: the left of the dart that runs against it
abbrev pub left_polygon : List MapChain → ℕ → Option ℕ
left_polygon chains d = polygon_on (dart_left chains d)

abbrev pub right_polygon : List MapChain → ℕ → Option ℕ
right_polygon chains d = left_polygon chains (reverse_dart d)

-- two polygons are neighbours: a dart has the one on its left and the other on its right
pub record AreNeighbours (chains : List MapChain) (p q : ℕ) : Type 0 where
  pub dart : ℕ
  pub left : left_polygon chains dart ≡ Some p
  pub right : right_polygon chains dart ≡ Some q

-- a neighbour of polygon p that has a lower number has the colour
pub record IsTaken (chains : List MapChain) (colours : List ℕ) (p colour : ℕ) : Type 0 where
  pub other : ℕ
  pub lower : other < p
  pub beside : AreNeighbours chains p other
  pub has : slice_index colours other ≡ colour

-- these are the colours of the polygons below a number: of each the least that isn't taken
pub record AreColours (chains : List MapChain) (count : ℕ) (colours : List ℕ) : Type 0 where
  pub all : length colours ≡ count
  pub free : (p : ℕ) → p < count → ¬ IsTaken chains colours p (slice_index colours p)
  pub least : (p colour : ℕ) → p < count → colour < slice_index colours p → IsTaken chains colours p colour

-- the hue of a colour, in degrees: turned on by 137 from colour to colour, so that colours with near numbers are far apart. The first 360
-- colours have different hues
abbrev pub hue : ℕ → ℕ
hue colour = 137 * colour % 360

-- ---- kept on the way

-- the polygon on the right of a dart has the colour
pub record Reaches (chains : List MapChain) (colours : List ℕ) (dart colour : ℕ) : Type 0 where
  pub other : ℕ
  pub beside : right_polygon chains dart ≡ Some other
  pub known : other < length colours
  pub has : slice_index colours other ≡ colour

-- the polygons on the left of all darts
pub record AreLefts (chains : List MapChain) (lefts : List (Option ℕ)) : Type 0 where
  pub all : length lefts ≡ 2 * length chains
  pub each : (d : ℕ) → d < 2 * length chains → slice_index_or lefts d None ≡ left_polygon chains d

-- polygon p was given the first colour that isn't marked with it, and where all were, that colour has a mark
pub record IsAdded (p : ℕ) (colours marks more kept : List ℕ) : Type 0 where
  pub colour : ℕ
  pub more_is : more ≡ colours ++ colour ∷ []
  pub kept_are : ((kept ≡ marks) × (colour < length marks)) ⊎ ((kept ≡ marks ++ p ∷ []) × (colour ≡ length marks))
  pub free : colour < length marks → slice_index marks colour ≢ p
  pub first : (c : ℕ) → c < colour → slice_index marks c ≡ p
