-- The map that a list of records draws: its chains with both sides, its polygons, and its landmarks with their polygons.
use Rattle.std.specs.Prelude.{◌≡◌, ℕ, zero, suc, Bool, ◌&&◌, ◌==◌, nat_eq, if◌then◌else◌, Option, Some, None, List, [], ◌∷◌, ◌++◌, map, filter, All, Contains}
use Rattle.std.specs.List.{filter_map, list_any}
use Rattle.std.specs.Cmp.Lexicographic.{pointwise}
use Rattle.tl_record_key.specs.declared.key.PolyKey.{PolyKey}
use Rattle.tl_record.specs.declared.record.Record.{Record}
use Rattle.tl_record.specs.declared.record.Record.TheVariants.{Sides, PolyPoint, Landmark, AreaLink}
use Rattle.tl_map_rules.specs.declared.entry.SidesEntry.{SidesEntry}
use Rattle.tl_map_rules.specs.declared.entry.LandmarkEntry.{LandmarkEntry}
use Rattle.tl_map_rules.specs.declared.entry.LinkEntry.{LinkEntry}
use Rattle.tl_map_county.specs.declared.polygons.Polygon.{Polygon}
use Rattle.tl_map_county.specs.declared.sides.Side.{Side}
use Rattle.tl_map_county.specs.declared.sides.Side.TheVariants.{Outside, Polygon as InPolygon}
use Rattle.tl_map_county.specs.Chains.{CompleteChain}
use Rattle.tl_map_rules.specs.ChainsOf.{AreChainsOf}
use Rattle.tl_map_county.specs.TheMap.{MapChain, MapLandmark, TheMap}

-- what a type I record says
abbrev pub sides_at : Record → Option SidesEntry
sides_at (Sides t s e l r) = Some (record { tlid = t; start_cell = s; end_cell = e; left = l; right = r })
sides_at other = None

-- what a type P record says
abbrev pub polygon_at : Record → Option Polygon
polygon_at (PolyPoint k p) = Some (record { key = k; point = p })
polygon_at other = None

-- what a type 7 record says
abbrev pub landmark_at : Record → Option LandmarkEntry
landmark_at (Landmark n p) = Some (record { land = n; point = p })
landmark_at other = None

-- what a type 8 record says
abbrev pub link_at : Record → Option LinkEntry
link_at (AreaLink k n) = Some (record { key = k; land = n })
link_at other = None

-- the type I, P, 7 and 8 records, each in file order
abbrev pub sides_in : List Record → List SidesEntry
sides_in rs = filter_map sides_at rs

abbrev pub polygons_in : List Record → List Polygon
polygons_in rs = filter_map polygon_at rs

abbrev pub landmarks_in : List Record → List LandmarkEntry
landmarks_in rs = filter_map landmark_at rs

abbrev pub links_in : List Record → List LinkEntry
links_in rs = filter_map link_at rs

-- the keys of the type P records
abbrev pub keys : List Polygon → List PolyKey
keys polygons = map (λ p. p.key) polygons

-- are these one key: CENID and POLYID together
abbrev pub same_key : PolyKey → PolyKey → Bool
same_key k l = pointwise nat_eq k.cenid l.cenid && (k.polyid == l.polyid)

-- the place of a key among keys: the number of its polygon
abbrev pub place_of : List PolyKey → PolyKey → ℕ
place_of [] k = zero
place_of (l ∷ ls) k = if same_key l k then zero else suc (place_of ls k)

-- a side without a key is outside of the county, one with a key is the polygon that the key names
abbrev pub side_of : List PolyKey → Option PolyKey → Side
side_of ks None = Outside
side_of ks (Some k) = InPolygon (place_of ks k)

-- those that come after the kept ones with a number that none before them has
abbrev pub firsts_after : {X : Type 0} → (X → ℕ) → List X → List X → List X
firsts_after n kept [] = kept
firsts_after n kept (x ∷ xs) = if list_any (λ y. n y == n x) kept then firsts_after n kept xs else firsts_after n (kept ++ x ∷ []) xs

-- the first of each number
abbrev pub firsts : {X : Type 0} → (X → ℕ) → List X → List X
firsts n xs = firsts_after n [] xs

-- the first type 7 record of each LAND
abbrev pub first_landmarks : List Record → List LandmarkEntry
first_landmarks rs = firsts (λ e. e.land) (landmarks_in rs)

-- the numbers of the polygons of the links to a LAND, each where it is linked first
abbrev pub linked_to : List PolyKey → List LinkEntry → ℕ → List ℕ
linked_to ks links n = firsts (λ p. p) (map (λ l. place_of ks l.key) (filter (λ l. l.land == n) links))

-- a chain without its sides
abbrev pub without_sides : MapChain → CompleteChain
without_sides c = record { tlid = c.tlid; points = c.points }

-- a type I record tells the chain's sides
pub record IsSided (rs : List Record) (c : MapChain) : Type 0 where
  pub sides : SidesEntry
  pub record_of_it : Contains (sides_in rs) sides
  pub tlid : sides.tlid ≡ c.tlid
  pub left : c.left ≡ side_of (keys (polygons_in rs)) sides.left
  pub right : c.right ≡ side_of (keys (polygons_in rs)) sides.right
  pub start_cell : c.start_cell ≡ sides.start_cell
  pub end_cell : c.end_cell ≡ sides.end_cell

-- the landmark of a first type 7 record
abbrev pub landmark_of : List Record → LandmarkEntry → MapLandmark
landmark_of rs e = record { land = e.land; point = e.point; polygons = linked_to (keys (polygons_in rs)) (links_in rs) e.land }

-- the map that the records draw: chains by rising TLID, polygons in the order of the type P records, landmarks in the
-- order of their first type 7 record
pub record IsMapOf (rs : List Record) (m : TheMap) : Type 0 where
  pub chains : AreChainsOf rs (map without_sides m.chains)
  pub sides : All (IsSided rs) m.chains
  pub polygons : m.polygons ≡ polygons_in rs
  pub landmarks : m.landmarks ≡ map (landmark_of rs) (first_landmarks rs)
