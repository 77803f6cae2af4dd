-- Kept on the way: the first record of each landmark, links by number, and the rows of landmarks.
use Rattle.std.specs.Prelude.{◌≡◌, ℕ, ◌<◌, ◌≤◌, ◌==◌, nat_eq, ◌⊎◌, Option, Some, List, All, length, map, filter, Any, Contains, slice_get, slice_index_or}
use Rattle.std.specs.declared.hash.RandomState.{RandomState}
use Rattle.indexmap.specs.IndexMap.{IndexMap, index_of, keys, IsUnique}
use Rattle.tl_geom.specs.declared.point.Point.{Point}
use Rattle.std.specs.List.Sorted.{IsNonDecreasingBy, IsPermutation}
use Rattle.tl_record_key.specs.declared.key.PolyKey.{PolyKey}
use Rattle.tl_map_rules.specs.declared.entry.LandmarkEntry.{LandmarkEntry}
use Rattle.tl_map_rules.specs.declared.entry.LinkEntry.{LinkEntry}
use Rattle.tl_map.specs.declared.landmarks.Link.{Link}
use Rattle.tl_map_county.specs.declared.landmarks.LinkedLandmarks.{LinkedLandmarks}
use Rattle.tl_map_county.specs.declared.landmarks.LandmarkRow.{LandmarkRow}
use Rattle.tl_map_rules.specs.MapOf.{firsts, place_of, linked_to}
use Rattle.tl_map_county.specs.TheMap.{MapLandmark}
use Rattle.tl_map_county.specs.Limits.{most_landmarks}
use Rattle.tl_map.specs.Keeping.Index.{Numbers}
use Rattle.tl_map_county.specs.Rows.{IsRow, polygons_at, landmarks_in}

-- the LANDs of records
abbrev pub lands : List LandmarkEntry → List ℕ
lands entries = map (λ e. e.land) entries

-- the index has the place of each LAND
abbrev pub IndexesLands : List ℕ → IndexMap ℕ (Option Point) RandomState → Type 0
IndexesLands ns index = Numbers ns (index_of nat_eq index)

-- a LAND and its point as a record
abbrev pub first_of : ℕ × Option Point → LandmarkEntry
first_of e = record { land = e.0; point = e.1 }

-- the first record of each LAND
pub record ListsLandmarks (entries : List LandmarkEntry) (f : IndexMap ℕ (Option Point) RandomState) : Type 0 where
  pub firsts_are : map first_of f.entries ≡ firsts (λ e. e.land) entries
  pub unique : IsUnique nat_eq f
  pub all : (n : ℕ) → Contains (lands entries) n → Contains (keys f) n
  pub no_other : (n : ℕ) → Contains (keys f) n → Contains (lands entries) n
  pub few : length f.entries ≤ most_landmarks

-- the numbers of a link's landmark and polygon
pub record IsLink (ks : List PolyKey) (ns : List ℕ) (link : LinkEntry) (made : Link) : Type 0 where
  pub landmark : slice_get ns made.landmark ≡ Some link.land
  pub known : slice_get ks made.polygon ≡ Some link.key
  pub polygon : made.polygon ≡ place_of ks link.key

-- there is no such landmark, or no such polygon
abbrev pub IsLinkUnknown : List PolyKey → List ℕ → LinkEntry → Type 0
IsLinkUnknown ks ns link = (¬ Contains ns link.land) ⊎ (¬ Contains ks link.key)

-- the numbers of the first of the links
pub record AreLinks (ks : List PolyKey) (ns : List ℕ) (links : List LinkEntry) (made : List Link) : Type 0 where
  pub count : length made ≤ length links
  pub each : (j : ℕ) (link : LinkEntry) (m : Link) → j < length made → IsLink ks ns (slice_index_or links j link) (slice_index_or made j m)

-- the numbers of all links
abbrev pub AreAllLinks : List PolyKey → List ℕ → List LinkEntry → List Link → Type 0
AreAllLinks ks ns links made = AreLinks ks ns links made × (length made ≡ length links)

-- is the link one of the landmark
abbrev pub links_to : ℕ → List Link → List Link
links_to l made = filter (λ m. m.landmark == l) made

-- by rising landmark, and those of one landmark in the order that they had
pub record AreByLandmark (old new : List Link) : Type 0 where
  pub rising : IsNonDecreasingBy (λ (m : Link). m.landmark) new
  pub moved : IsPermutation old new
  pub same : (l : ℕ) → links_to l new ≡ links_to l old

-- the polygons of the links to the number, each where it is linked first
abbrev pub polygons_to : ℕ → List Link → List ℕ
polygons_to l links = firsts (λ p. p) (map (λ m. m.polygon) (links_to l links))

-- the first n landmarks have rows, each with the polygons of its links
pub record AreRows (links : List Link) (n : ℕ) (linked : List ℕ) (rows : List LandmarkRow) : Type 0 where
  pub count : length rows ≡ n
  pub within : All (IsRow linked) rows
  pub are : (k : ℕ) (d : LandmarkRow) → k < length rows → polygons_at linked (slice_index_or rows k d) ≡ polygons_to k links

-- each of n landmarks has a row with the polygons of its links, which name landmarks and polygons by these LANDs and keys
pub record AreLinkRows (ks : List PolyKey) (ns : List ℕ) (links : List LinkEntry) (n : ℕ) (linked : List ℕ) (rows : List LandmarkRow) : Type 0 where
  pub made : List Link
  pub sorted : List Link
  pub all : AreAllLinks ks ns links made
  pub by_landmark : AreByLandmark made sorted
  pub listed : AreRows sorted n linked rows

-- the landmark of a first record, by the polygons' keys and the links
abbrev pub landmark_from : List PolyKey → List LinkEntry → LandmarkEntry → MapLandmark
landmark_from ks links e = record { land = e.land; point = e.point; polygons = linked_to ks links e.land }

-- the landmarks of the records with the polygons of the links, each of which names one of both
pub record AreLinked (ks : List PolyKey) (entries : List LandmarkEntry) (links : List LinkEntry) (l : LinkedLandmarks) : Type 0 where
  pub are : landmarks_in l.linked.items l.points.items l.rows.items ≡ map (landmark_from ks links) (firsts (λ e. e.land) entries)
  pub beside : length l.rows.items ≡ length l.points.items
  pub within : All (IsRow l.linked.items) l.rows.items
  pub known : All (λ link. Contains (lands entries) link.land × Contains ks link.key) links
  pub few : length (firsts (λ (e : LandmarkEntry). e.land) entries) ≤ most_landmarks

-- there are too many landmarks, or a link names a landmark or a polygon that is not there
abbrev pub AreUnlinked : List PolyKey → List LandmarkEntry → List LinkEntry → Type 0
AreUnlinked ks entries links = (most_landmarks < length (firsts (λ (e : LandmarkEntry). e.land) entries)) ⊎ Any (IsLinkUnknown ks (lands entries)) links
