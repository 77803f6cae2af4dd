-- The chains and landmarks of rows, as the parts of a map keep them.
use Rattle.std.specs.Prelude.{◌≡◌, ℕ, ◌+◌, ◌<◌, ◌≤◌, Option, List, [], ◌∷◌, length, map, slice_index_or, take, drop, All}
use Rattle.tl_geom.specs.declared.point.Point.{Point}
use Rattle.tl_record_key.specs.declared.key.PolyKey.{PolyKey}
use Rattle.tl_map_county.specs.declared.polygons.Polygon.{Polygon}
use Rattle.tl_map_county.specs.declared.chains.ChainRow.{ChainRow}
use Rattle.tl_map_county.specs.Chains.{CompleteChain, segment_count}
use Rattle.tl_map_county.specs.declared.landmarks.LandmarkRow.{LandmarkRow}
use Rattle.tl_map_county.specs.TheMap.{MapLandmark, MapChain}
use Rattle.tl_map_county.specs.Landmarks.{ArePolygonsOf}
use Rattle.tl_map_county.specs.declared.sides.ChainSides.{ChainSides}

-- the row's points lie within the list
abbrev pub IsWithin : List Point → ChainRow → Type 0
IsWithin points row = row.first + row.count ≤ length points

-- the chain of a row
abbrev pub chain_in : List Point → ChainRow → CompleteChain
chain_in points row = record { tlid = row.tlid; points = take row.count (drop row.first points) }

-- the chains of the rows
abbrev pub chains_in : List Point → List ChainRow → List CompleteChain
chains_in points rows = map (chain_in points) rows

-- the rows lie within the points, each behind those before it, and there is no point beside theirs
pub record IsTable (points : List Point) (rows : List ChainRow) : Type 0 where
  pub within : All (IsWithin points) rows
  pub behind : (c : ℕ) (d : ChainRow) → c < length rows → (slice_index_or rows c d).first ≡ segment_count (take c (chains_in points rows)) + c
  pub total : length points ≡ segment_count (chains_in points rows) + length rows

-- the row's polygons lie within the list
abbrev pub IsRow : List ℕ → LandmarkRow → Type 0
IsRow linked row = row.first + row.count ≤ length linked

-- the polygons of a row
abbrev pub polygons_at : List ℕ → LandmarkRow → List ℕ
polygons_at linked row = take row.count (drop row.first linked)

-- the polygons of a row are among n, each once
abbrev pub HasPolygonsOf : ℕ → List ℕ → LandmarkRow → Type 0
HasPolygonsOf n linked row = ArePolygonsOf n (polygons_at linked row)

-- a LAND and a point with the polygons of a row
abbrev pub landmark_in : List ℕ → ℕ × Option Point → LandmarkRow → MapLandmark
landmark_in linked e row = record { land = e.0; point = e.1; polygons = polygons_at linked row }

-- LANDs and points, each with the polygons of the row beside it
abbrev pub landmarks_in : List ℕ → List (ℕ × Option Point) → List LandmarkRow → List MapLandmark
landmarks_in linked [] rows = []
landmarks_in linked (e ∷ es) [] = []
landmarks_in linked (e ∷ es) (row ∷ rows) = landmark_in linked e row ∷ landmarks_in linked es rows

-- the polygon of a key and its point
abbrev pub polygon_in : PolyKey × Point → Polygon
polygon_in e = record { key = e.0; point = e.1 }

-- a chain with its sides
abbrev pub with_sides : CompleteChain → ChainSides → MapChain
with_sides c s = record { tlid = c.tlid; points = c.points; left = s.left; right = s.right; start_cell = s.start_cell; end_cell = s.end_cell }

-- chains with their sides
abbrev pub sided : List CompleteChain → List ChainSides → List MapChain
sided [] ss = []
sided (c ∷ cs) [] = []
sided (c ∷ cs) (s ∷ ss) = with_sides c s ∷ sided cs ss
