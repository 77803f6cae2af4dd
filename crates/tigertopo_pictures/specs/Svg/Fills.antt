-- Polygons of a sound map, filled: each with all its rings, so that what lies in an even number of them stays as it is.
use Rattle.std.specs.Prelude.{ℕ, zero, suc, Bool, not, ◌&&◌, if◌then◌else◌, List, [], ◌∷◌, ◌++◌, map, length, slice_index, Option, None, Some, codes, decimal, flat_map}
use Rattle.std.specs.Ordering.{int_eq}
use Rattle.std.specs.Option.{option_map_or}
use Rattle.tl_geom.specs.declared.rect.Rect.{Rect}
use Rattle.tl_map_county.specs.TheMap.{TheMap, MapChain}
use Rattle.tl_map_county.specs.Darts.{chain_of}
use Rattle.tl_check_sides.specs.Lists.{list_at}
use Rattle.tl_check_sides.specs.Walks.{AreWalks}
use Rattle.tigertopo_pictures.specs.Walks.{walk_polygon}
use Rattle.tigertopo_pictures.specs.Groups.{places, Linked, AreGroups}
use Rattle.tigertopo_pictures.specs.Rings.{ThePen, ring_text}
use Rattle.tigertopo_pictures.specs.declared.svg.frame.Frame.{Frame}
use Rattle.tigertopo_pictures.specs.declared.svg.frame.Spot.{Spot}
use Rattle.tigertopo_pictures.specs.Svg.Frames.{spot_of, meets, is_speck, around_points, no_points}
use Rattle.tigertopo_pictures.specs.Svg.Texts.{pair_text, move_text}
use Rattle.tigertopo_pictures.specs.Svg.Colours.{AreColours, hue}

-- what polygons are filled by: the map's walks, and each polygon's colour
pub record Filling : Type 0 where
  pub walks : List (List ℕ)
  pub colours : List ℕ

-- they are those of the map
pub record IsFillingOf (m : TheMap) (filling : Filling) : Type 0 where
  pub walks : AreWalks m.chains filling.walks
  pub colours : AreColours m.chains (length m.polygons) filling.colours

-- the same, with the walks that are the rings of each polygon
pub record TheFills : Type 0 where
  pub filling : Filling
  pub rings : Linked

pub record AreFillsOf (m : TheMap) (fills : TheFills) : Type 0 where
  pub filling : IsFillingOf m fills.filling
  pub rings : AreGroups (length m.polygons) (map (walk_polygon m.chains) fills.filling.walks) fills.rings

-- ---- what is filled

-- the rings of a polygon, by the numbers of their walks: those that have it on their left
abbrev pub rings_of : List MapChain → List (List ℕ) → ℕ → List ℕ
rings_of chains walks p = places p (map (walk_polygon chains) walks)

-- the rectangle, so widened that it holds the points of a dart, of darts, and of the darts of walks
abbrev pub around_dart : List MapChain → Rect → ℕ → Rect
around_dart chains r d = option_map_or (λ (c : MapChain). around_points r c.points) (chain_of chains d) r

abbrev pub around_darts : List MapChain → Rect → List ℕ → Rect
around_darts chains r [] = r
around_darts chains r (d ∷ rest) = around_darts chains (around_dart chains r d) rest

abbrev pub around_walks : List MapChain → List (List ℕ) → Rect → List ℕ → Rect
around_walks chains walks r [] = r
around_walks chains walks r (n ∷ rest) = around_walks chains walks (around_darts chains r (list_at walks n)) rest

-- is what has this rectangle about it filled: where that meets the picture, and isn't smaller than four pixels along both axes
abbrev pub is_filled : Frame → Rect → Bool
is_filled f r = not (is_speck f r) && meets f r

-- ---- how it is written

-- is it the same place in whole tenths of a pixel
abbrev pub is_spot : Spot → Spot → Bool
is_spot a b = int_eq a.x b.x && int_eq a.y b.y

-- the way from one place of a picture to another, if it is another
unfoldable pub step_text : (from to : Spot) → List ℕ
step_text from to = if is_spot from to then [] else pair_text (codes "L") to.x to.y

-- how rings are written: a step is left out that ends in the same place
abbrev pub frame_pen : Frame → ThePen
frame_pen f = record { start = λ p. move_text (spot_of f p); step = λ p q. step_text (spot_of f p) (spot_of f q) }

-- a ring: the way along all darts of a walk, and back to its start
abbrev pub ring_path : Frame → List MapChain → List ℕ → List ℕ
ring_path f chains walk = ring_text (frame_pen f) chains walk ++ codes "z"

-- how what has a colour begins
unfoldable pub fill_head : ℕ → List ℕ
fill_head colour = codes "<path style=\"fill:hsl(" ++ decimal (hue colour) ++ codes ",70%,88%)\" d=\""

-- these rings, filled with a colour
unfoldable pub fill_text : Frame → List MapChain → List (List ℕ) → (colour : ℕ) → List ℕ → List ℕ
fill_text f chains walks colour ns = fill_head colour ++ flat_map (λ n. ring_path f chains (list_at walks n)) ns ++ codes "\"/>\n"

-- a polygon, where it is filled
abbrev pub polygon_fill : Frame → List MapChain → Filling → ℕ → List ℕ
polygon_fill f chains filling p =
    if is_filled f (around_walks chains filling.walks no_points (rings_of chains filling.walks p))
    then fill_text f chains filling.walks (slice_index filling.colours p) (rings_of chains filling.walks p) else []

-- the polygons below a number
abbrev pub fills_below : Frame → List MapChain → Filling → ℕ → List ℕ
fills_below f chains filling zero = []
fills_below f chains filling (suc n) = fills_below f chains filling n ++ polygon_fill f chains filling n

-- all polygons of a map, where they are to be filled
unfoldable pub all_fills : Frame → TheMap → Filling → List ℕ
all_fills f m filling = codes "<g class=\"polygons\">\n" ++ fills_below f m.chains filling (length m.polygons) ++ codes "</g>\n"

abbrev pub fills_part : Frame → TheMap → Option Filling → List ℕ
fills_part f m None = []
fills_part f m (Some filling) = all_fills f m filling
