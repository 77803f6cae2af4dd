-- What `show` and `landmarks` print.
use Rattle.std.specs.Prelude.{ℕ, List, [], ◌∷◌, ◌++◌, Option, Some, None, length, codes, decimal, slice_get}
use Rattle.std.specs.Option.{option_map_or}
use Rattle.std.specs.Fmt.{signed_decimal}
use Rattle.tl_geom.specs.declared.point.Point.{Point}
use Rattle.tl_record_key.specs.KeyText.{key_text}
use Rattle.tl_map_county.specs.declared.polygons.Polygon.{Polygon}
use Rattle.tl_map_county.specs.TheMap.{TheMap, MapLandmark}
use Rattle.tl_map_county.specs.Chains.{CompleteChain, ChainList, segment_count}

-- a blank, the longitude, a comma and the latitude
unfoldable pub point_text : Point → List ℕ
point_text point = codes " " ++ signed_decimal point.x ++ codes "," ++ signed_decimal point.y

-- the points one after the other
abbrev pub points_text : List Point → List ℕ
points_text [] = []
points_text (point ∷ rest) = point_text point ++ points_text rest

-- the line of a chain
unfoldable pub chain_text : CompleteChain → List ℕ
chain_text chain = codes "tlid " ++ decimal chain.tlid ++ points_text chain.points ++ codes "\n"

-- the lines of the chains one after the other
abbrev pub chains_text : List CompleteChain → List ℕ
chains_text [] = []
chains_text (chain ∷ rest) = chain_text chain ++ chains_text rest

-- the line of counts: of chains, of segments and of lines passed over
abbrev pub counts_text : ℕ → ℕ → ℕ → List ℕ
counts_text chains segments skipped =
    codes "chains=" ++ decimal chains ++ codes " segments=" ++ decimal segments ++ codes " skipped=" ++ decimal skipped ++ codes "\n"

-- a line for each chain, and then the counts
abbrev pub shown_text : ChainList → List ℕ
shown_text list = chains_text list.chains ++ counts_text (length list.chains) (segment_count list.chains) list.skipped

-- a blank and the key of the polygon with this number
abbrev pub polygon_text : List Polygon → ℕ → List ℕ
polygon_text polygons number = option_map_or (λ (polygon : Polygon). codes " " ++ key_text polygon.key) (slice_get polygons number) []

-- the polygons one after the other
abbrev pub polygons_text : List Polygon → List ℕ → List ℕ
polygons_text polygons [] = []
polygons_text polygons (number ∷ rest) = polygon_text polygons number ++ polygons_text polygons rest

-- the polygons, or a word that says that there are none
abbrev pub listed_text : List Polygon → List ℕ → List ℕ
listed_text polygons [] = codes " none"
listed_text polygons (number ∷ rest) = polygons_text polygons (number ∷ rest)

-- whether a landmark is an area, or where its point lies
abbrev pub place_text : Option Point → List ℕ
place_text None = codes " area"
place_text (Some point) = codes " point" ++ point_text point

-- the line of a landmark
unfoldable pub landmark_text : List Polygon → MapLandmark → List ℕ
landmark_text polygons landmark = codes "land " ++ decimal landmark.land ++ place_text landmark.point ++ codes " polygons"
    ++ listed_text polygons landmark.polygons ++ codes "\n"

-- the lines of the landmarks one after the other
abbrev pub landmark_lines : List Polygon → List MapLandmark → List ℕ
landmark_lines polygons [] = []
landmark_lines polygons (landmark ∷ rest) = landmark_text polygons landmark ++ landmark_lines polygons rest

-- the line of their number
abbrev pub landmark_count_text : ℕ → List ℕ
landmark_count_text count = codes "landmarks=" ++ decimal count ++ codes "\n"

-- a line for each landmark, and then their number
abbrev pub listing_text : TheMap → List ℕ
listing_text m = landmark_lines m.polygons m.landmarks ++ landmark_count_text (length m.landmarks)
