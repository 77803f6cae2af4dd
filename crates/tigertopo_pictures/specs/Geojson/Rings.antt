-- The rings and the shapes of polygons, and the whole text of a county.
use Rattle.std.specs.Prelude.{ℕ, ◌+◌, ℤ, Bool, if◌then◌else◌, Option, List, [], ◌++◌, length, slice_get, codes}
use Rattle.std.specs.Option.{option_map_or}
use Rattle.tl_map_county.specs.declared.polygons.Polygon.{Polygon}
use Rattle.tl_map_county.specs.TheMap.{TheMap, MapChain}
use Rattle.tl_check_sides.specs.Lists.{list_at}
use Rattle.std.specs.List.{flat_map}
use Rattle.tigertopo_words.specs.declared.layer.Layer.{Layer}
use Rattle.tigertopo_words.specs.declared.layer.Layer.TheVariants as layers
use Rattle.tigertopo_pictures.specs.Items.{separated}
use Rattle.tigertopo_pictures.specs.Geojson.Strings.{key_members}
use Rattle.tigertopo_pictures.specs.Rings.{ring_text}
use Rattle.tigertopo_pictures.specs.Geojson.Positions.{positions_pen}
use Rattle.tigertopo_pictures.specs.Groups.{is_one}
use Rattle.tigertopo_pictures.specs.Geojson.Areas.{doubled_area, half_text}
use Rattle.tigertopo_pictures.specs.Geojson.Metres.{metres_text}
use Rattle.tigertopo_pictures.specs.Geojson.Holes.{outer_rings, holes_in}
use Rattle.tigertopo_pictures.specs.Geojson.Features.{shown, those_shown, file_member, features_below, chain_feature, polygon_feature, landmark_features, collection_opening, collection_closing}

-- a ring: an array of positions
abbrev pub ring_array : List MapChain → List ℕ → List ℕ
ring_array chains walk = codes "[" ++ ring_text positions_pen chains walk ++ codes "]"

-- the rings of these walks, each behind a comma
abbrev pub more_rings : List MapChain → List (List ℕ) → List ℕ → List ℕ
more_rings chains walks ns = flat_map (λ n. codes "," ++ ring_array chains (list_at walks n)) ns

-- outer ring n, and behind it its holes
unfoldable pub part_text : List MapChain → List (List ℕ) → ℕ → List ℕ
part_text chains walks n = codes "[" ++ ring_array chains (list_at walks n) ++ more_rings chains walks (holes_in chains walks n) ++ codes "]"

-- how a shape begins and ends, which is a Polygon where it has one outer ring, and else a MultiPolygon
abbrev pub shape_opening : Bool → List ℕ
shape_opening one = if one then codes "{\"type\":\"Polygon\",\"coordinates\":" else codes "{\"type\":\"MultiPolygon\",\"coordinates\":["

abbrev pub shape_closing : Bool → List ℕ
shape_closing one = if one then codes "}" else codes "]}"

-- the shape with these outer rings
abbrev pub shape_text : List MapChain → List (List ℕ) → List ℕ → List ℕ
shape_text chains walks ns = shape_opening (is_one ns) ++ separated (part_text chains walks) ns ++ shape_closing (is_one ns)

-- a polygon: its shape, what names it, its area in square millionths of a degree and in square metres, and its file
unfoldable pub boundary_text : Option (List ℕ) → Polygon → (shape : List ℕ) → (doubled : ℤ) → List ℕ
boundary_text file polygon shape doubled =
    codes "{\"type\":\"Feature\",\"geometry\":" ++ shape
    ++ codes ",\"properties\":{" ++ key_members polygon.key
    ++ codes ",\"area\":\"" ++ half_text doubled
    ++ codes "\",\"square_metres_rounded\":" ++ metres_text doubled polygon.point.y ++ file_member file ++ codes "}}"

-- the polygon with this number
abbrev pub boundary_feature : Option (List ℕ) → TheMap → List (List ℕ) → ℕ → List ℕ
boundary_feature file m walks p =
    option_map_or (λ (polygon : Polygon). boundary_text file polygon (shape_text m.chains walks (outer_rings m.chains walks p)) (doubled_area m.chains p))
    (slice_get m.polygons p) []

-- how many chains, polygons' points and polygons are written: those of the layer that is asked for, or all
abbrev pub chains_shown : Option Layer → TheMap → ℕ
chains_shown layer m = shown layer layers.Chains (length m.chains)

abbrev pub points_shown : Option Layer → TheMap → ℕ
points_shown layer m = shown layer layers.Points (length m.polygons)

abbrev pub polygons_shown : Option Layer → TheMap → ℕ
polygons_shown layer m = shown layer layers.Polygons (length m.polygons)

-- the chains, and then the polygons' points, with their file if one is told
abbrev pub chains_and_points : Option (List ℕ) → Option Layer → TheMap → List ℕ
chains_and_points file layer m =
    features_below 0 (chain_feature file m) (chains_shown layer m)
    ++ features_below (chains_shown layer m) (polygon_feature file m) (points_shown layer m)

-- the polygons' boundaries behind them, by these walks
abbrev pub boundaries : Option (List ℕ) → Option Layer → TheMap → List (List ℕ) → List ℕ
boundaries file layer m walks =
    features_below (chains_shown layer m + points_shown layer m) (boundary_feature file m walks) (polygons_shown layer m)

-- the landmarks' points, behind so many features
abbrev pub landmarks_text : Option (List ℕ) → Option Layer → ℕ → TheMap → List ℕ
landmarks_text file layer k m = landmark_features file k m.polygons (those_shown layer layers.Landmarks m.landmarks)

-- a county, or one layer of it: the landmarks' points stand last
unfoldable pub county_text : Option (List ℕ) → Option Layer → TheMap → List ℕ
county_text file layer m =
    collection_opening ++ chains_and_points file layer m
    ++ landmarks_text file layer (chains_shown layer m + points_shown layer m) m ++ collection_closing

-- a county with its boundaries, or one layer of it
unfoldable pub county_text_with : Option (List ℕ) → Option Layer → TheMap → List (List ℕ) → List ℕ
county_text_with file layer m walks =
    collection_opening ++ chains_and_points file layer m ++ boundaries file layer m walks
    ++ landmarks_text file layer (chains_shown layer m + points_shown layer m + polygons_shown layer m) m ++ collection_closing
