-- Kept on the way: the keys and LANDs of the records.
use Rattle.std.specs.Prelude.{◌≡◌, ℕ, List, ◌∷◌, map}
use Rattle.std.specs.List.{flat_map}
use Rattle.std.specs.List.Sorted.{IsPermutation}
use Rattle.tl_record_key.specs.declared.key.PolyKey.{PolyKey}
use Rattle.tl_record.specs.declared.record.Record.{Record}
use Rattle.tl_map_rules.specs.declared.entry.LinkEntry.{LinkEntry}
use Rattle.tl_map_rules.specs.declared.entry.SidesEntry.{SidesEntry}
use Rattle.tl_map_rules.specs.MapOf.{sides_in, polygons_in, landmarks_in, links_in, keys}
use Rattle.tl_map_rules.specs.declared.listing.kept.NamedSide.{NamedSide}
use Rattle.tl_map_rules.specs.Listing.Kept.{names_of}

-- the keys of the type P records, those that sides name, the LANDs of the type 7 records, and the type 8 records with their LANDs
pub record AreAreas (rs : List Record) (polygons : List PolyKey) (names : List NamedSide) (landmarks : List ℕ) (links : List LinkEntry) (lands : List ℕ) : Type 0 where
  pub entries : List SidesEntry
  pub moved : IsPermutation (sides_in rs) entries
  pub of_polygons : IsPermutation (keys (polygons_in rs)) polygons
  pub of_sides : names ≡ flat_map names_of entries
  pub of_landmarks : IsPermutation (map (λ e. e.land) (landmarks_in rs)) landmarks
  pub of_links : links ≡ links_in rs
  pub of_lands : IsPermutation (map (λ l. l.land) (links_in rs)) lands

-- the codes with those of the faults that keys and LANDs tell
abbrev pub with_areas : List ℕ → List ℕ
with_areas codes = 11 ∷ 10 ∷ 9 ∷ 8 ∷ codes
