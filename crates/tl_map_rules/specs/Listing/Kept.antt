-- What is kept of records.
use Rattle.std.specs.Prelude.{◌≡◌, ℕ, ◌==◌, Option, Some, None, List, [], ◌∷◌, ◌++◌, map, count_by}
use Rattle.std.specs.List.{filter_map, flat_map}
use Rattle.std.specs.List.Sorted.{IsPermutation}
use Rattle.tl_record_key.specs.declared.key.PolyKey.{PolyKey}
use Rattle.tl_record.specs.declared.record.Record.{Record}
use Rattle.tl_record.specs.declared.record.Record.TheVariants.{Chain, Shape}
use Rattle.tl_map_rules.specs.declared.entry.ChainEntry.{ChainEntry}
use Rattle.tl_map_rules.specs.declared.entry.SidesEntry.{SidesEntry}
use Rattle.tl_map_rules.specs.ChainsOf.{is_chain}
use Rattle.tl_map_rules.specs.MapOf.{sides_in, polygons_in, landmarks_in, links_in, keys}
use Rattle.tl_map_rules.specs.declared.listing.shape.ShapeSummary.{ShapeSummary}
use Rattle.tl_map_rules.specs.declared.listing.kept.NamedSide.{NamedSide}
use Rattle.tl_map_rules.specs.declared.listing.kept.KeptAreas.{KeptAreas}
use Rattle.tl_map_rules.specs.Listing.Shapes.{seen_in}

-- what a type 1 record says
abbrev pub chain_at : Record → Option ChainEntry
chain_at (Chain t from to) = Some (record { tlid = t; from = from; to = to })
chain_at other = None

-- what is kept of a type 2 record
abbrev pub shape_at : Record → Option ShapeSummary
shape_at (Shape t n pairs) = Some (record { tlid = t; seen = seen_in pairs; rtsq = n })
shape_at other = None

-- the key that a side of a TLID names
abbrev pub named : ℕ → Option PolyKey → List NamedSide
named t None = []
named t (Some k) = record { tlid = t; key = k } ∷ []

-- the keys that both sides name
abbrev pub names_of : SidesEntry → List NamedSide
names_of s = named s.tlid s.left ++ named s.tlid s.right

-- the type 1 and type 2 records, in any order
pub record HasChains (rs : List Record) (chains : List ChainEntry) (shapes : List ShapeSummary) : Type 0 where
  pub of_chains : IsPermutation (filter_map chain_at rs) chains
  pub of_shapes : IsPermutation (filter_map shape_at rs) shapes

-- the TLIDs of the type 1 records, in any order: each as often as one of them has it
abbrev pub AreChainTlids : List Record → List ℕ → Type 0
AreChainTlids rs tlids = (t : ℕ) → count_by (λ x. x == t) tlids ≡ count_by (is_chain t) rs

-- of the records of the other types the numbers and keys; of the type I records in any order
pub record HasAreas (rs : List Record) (k : KeptAreas) : Type 0 where
  pub entries : List SidesEntry
  pub moved : IsPermutation (sides_in rs) entries
  pub sides : k.sides.items ≡ map (λ s. s.tlid) entries
  pub names : k.names.items ≡ flat_map names_of entries
  pub polygons : k.polygons.items ≡ keys (polygons_in rs)
  pub landmarks : k.landmarks.items ≡ map (λ e. e.land) (landmarks_in rs)
  pub links : k.links.items ≡ links_in rs
