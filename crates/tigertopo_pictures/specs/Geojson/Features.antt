-- The features of chains, of polygons' points and of landmarks' points, and collections of features.
use Rattle.std.specs.Prelude.{ℕ, zero, suc, ◌+◌, Bool, true, false, if◌then◌else◌, List, [], ◌∷◌, ◌++◌, filter, is_some, slice_get, slice_index_or, Option, Some, None, codes, decimal}
use Rattle.std.specs.Option.{option_map_or}
use Rattle.tl_geom.specs.declared.point.Point.{Point}
use Rattle.tl_map_county.specs.declared.polygons.Polygon.{Polygon}
use Rattle.tl_map_county.specs.declared.sides.Side.{Side}
use Rattle.tl_map_county.specs.declared.sides.Side.TheVariants as side
use Rattle.tl_map_county.specs.TheMap.{TheMap, MapChain, MapLandmark}
use Rattle.std.specs.List.{flat_map}
use Rattle.tigertopo_words.specs.declared.layer.Layer.{Layer}
use Rattle.tigertopo_words.specs.declared.layer.Layer.TheVariants.{Chains, Points, Polygons, Landmarks}
use Rattle.tigertopo_words.specs.Json.{string_text}
use Rattle.tigertopo_pictures.specs.Geojson.Strings.{key_string, key_members}
use Rattle.tigertopo_pictures.specs.Geojson.Positions.{position_text, positions_text}
use Rattle.tigertopo_pictures.specs.Groups.{places}
use Rattle.tigertopo_pictures.specs.Items.{separated}

-- are features of this kind in a file of one layer, or of all
abbrev pub is_shown : Option Layer → Layer → Bool
is_shown None kind = true
is_shown (Some Chains) Chains = true
is_shown (Some Points) Points = true
is_shown (Some Polygons) Polygons = true
is_shown (Some Landmarks) Landmarks = true
is_shown (Some layer) kind = false

-- how many of n features of a kind are
abbrev pub shown : Option Layer → Layer → ℕ → ℕ
shown layer kind n = if is_shown layer kind then n else 0

-- which of them are
abbrev pub those_shown : {X : Type 0} → Option Layer → Layer → List X → List X
those_shown layer kind xs = if is_shown layer kind then xs else []

-- the file of a feature, by its name, if one is told
abbrev pub file_member : Option (List ℕ) → List ℕ
file_member None = []
file_member (Some name) = codes ",\"file\":" ++ string_text name

-- what stands before feature n: a line feed, and a comma before that where it isn't the first one
abbrev pub lead : ℕ → List ℕ
lead zero = codes "\n"
lead (suc n) = codes ",\n"

-- the features that `feature` gives below n, where k features stand before them
abbrev pub features_below : ℕ → (ℕ → List ℕ) → ℕ → List ℕ
features_below k feature zero = []
features_below k feature (suc n) = features_below k feature n ++ lead (k + n) ++ feature n

-- the features of a list's items, where k features stand before them
abbrev pub features_of : {X : Type 0} → ℕ → (X → List ℕ) → List X → List ℕ
features_of k feature [] = []
features_of k feature (x ∷ rest) = lead k ++ feature x ++ features_of (suc k) feature rest

-- what stands before the item at a place of a list
abbrev pub comma_before : ℕ → List ℕ
comma_before zero = []
comma_before (suc place) = codes ","

-- what lies on a side: the key of its polygon, or null outside
abbrev pub side_text : List Polygon → Side → List ℕ
side_text polygons side.Outside = codes "null"
side_text polygons (side.Polygon p) = option_map_or (λ (polygon : Polygon). key_string polygon.key) (slice_get polygons p) (codes "null")

-- a chain: a line from its start to its end, its TLID, what lies on both sides, and its file
unfoldable pub chain_text : Option (List ℕ) → List Polygon → (tlid : ℕ) → List Point → (left right : Side) → List ℕ
chain_text file polygons tlid points left right =
    codes "{\"type\":\"Feature\",\"geometry\":{\"type\":\"LineString\",\"coordinates\":[" ++ positions_text points
    ++ codes "]},\"properties\":{\"tlid\":" ++ decimal tlid
    ++ codes ",\"left\":" ++ side_text polygons left
    ++ codes ",\"right\":" ++ side_text polygons right ++ file_member file ++ codes "}}"

-- the chain with this number
abbrev pub chain_feature : Option (List ℕ) → TheMap → ℕ → List ℕ
chain_feature file m c = option_map_or (λ (chain : MapChain). chain_text file m.polygons chain.tlid chain.points chain.left chain.right) (slice_get m.chains c) []

-- of each link of a landmark with a polygon the landmark's LAND, and beside it the polygon
abbrev pub linked_lands : List MapLandmark → List ℕ
linked_lands landmarks = flat_map (λ (landmark : MapLandmark). flat_map (λ p. landmark.land ∷ []) landmark.polygons) landmarks

abbrev pub linked_polygons : List MapLandmark → List (Option ℕ)
linked_polygons landmarks = flat_map (λ (landmark : MapLandmark). flat_map (λ p. Some p ∷ []) landmark.polygons) landmarks

-- the LANDs of the landmarks that polygon p is linked to, in the landmarks' order
abbrev pub lands_text : List MapLandmark → ℕ → List ℕ
lands_text landmarks p = separated (λ n. decimal (slice_index_or (linked_lands landmarks) n 0)) (places p (linked_polygons landmarks))

-- a polygon: its point, what names it, the LANDs, and its file
unfoldable pub polygon_text : Option (List ℕ) → Polygon → List ℕ → List ℕ
polygon_text file polygon lands =
    codes "{\"type\":\"Feature\",\"geometry\":{\"type\":\"Point\",\"coordinates\":" ++ position_text polygon.point
    ++ codes "},\"properties\":{" ++ key_members polygon.key
    ++ codes ",\"landmarks\":[" ++ lands ++ codes "]" ++ file_member file ++ codes "}}"

-- the polygon with this number
abbrev pub polygon_feature : Option (List ℕ) → TheMap → ℕ → List ℕ
polygon_feature file m p = option_map_or (λ (polygon : Polygon). polygon_text file polygon (lands_text m.landmarks p)) (slice_get m.polygons p) []

-- a landmark's point: its LAND, the keys of its polygons, and its file
unfoldable pub landmark_text : Option (List ℕ) → List Polygon → (land : ℕ) → Point → List ℕ → List ℕ
landmark_text file polygons land point linked =
    codes "{\"type\":\"Feature\",\"geometry\":{\"type\":\"Point\",\"coordinates\":" ++ position_text point
    ++ codes "},\"properties\":{\"land\":" ++ decimal land
    ++ codes ",\"polygons\":[" ++ separated (λ p. side_text polygons (side.Polygon p)) linked ++ codes "]" ++ file_member file ++ codes "}}"

-- that of a landmark that has a point
abbrev pub landmark_feature : Option (List ℕ) → List Polygon → MapLandmark → List ℕ
landmark_feature file polygons landmark = option_map_or (λ point. landmark_text file polygons landmark.land point landmark.polygons) landmark.point []

-- the landmarks that have a point
abbrev pub with_points : List MapLandmark → List MapLandmark
with_points landmarks = filter (λ (landmark : MapLandmark). is_some landmark.point) landmarks

-- their features, where k features stand before them
abbrev pub landmark_features : Option (List ℕ) → ℕ → List Polygon → List MapLandmark → List ℕ
landmark_features file k polygons landmarks = features_of k (landmark_feature file polygons) (with_points landmarks)

-- how a collection begins and ends
abbrev pub collection_opening : List ℕ
collection_opening = codes "{\"type\":\"FeatureCollection\",\"name\":\"tigertopo\",\"features\":["

abbrev pub collection_closing : List ℕ
collection_closing = codes "\n]}\n"
