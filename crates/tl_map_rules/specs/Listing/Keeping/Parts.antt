-- Kept on the way: the parts of what is kept of records, and what is told of each.
use Rattle.std.specs.Prelude.{◌≡◌, ℕ, ◌<◌, List, [], ◌∷◌, All, map, length}
use Rattle.std.specs.List.{flat_map}
use Rattle.std.specs.List.Sorted.{IsPermutation}
use Rattle.tl_record_key.specs.declared.key.PolyKey.{PolyKey}
use Rattle.tl_record.specs.declared.record.Record.{Record}
use Rattle.tl_map_rules.specs.declared.entry.LinkEntry.{LinkEntry}
use Rattle.tl_map_rules.specs.declared.entry.SidesEntry.{SidesEntry}
use Rattle.tl_map_rules.specs.declared.fault.Limited.TheVariants.{Chains, Segments}
use Rattle.tl_map_rules.specs.declared.fault.RecordFault.{RecordFault}
use Rattle.tl_map_rules.specs.MapOf.{sides_in, polygons_in, landmarks_in, links_in, keys, first_landmarks}
use Rattle.tl_map_rules.specs.Faults.{IsTooMany, IsFaultOfChains}
use Rattle.tl_map_county.specs.Limits.{most_chains, most_segments}
use Rattle.tl_map_rules.specs.declared.listing.kept.NamedSide.{NamedSide}
use Rattle.tl_map_rules.specs.Listing.Kept.{names_of, AreChainTlids}
use Rattle.tl_map_rules.specs.Listing.Keeping.Told.{AreTold}
use Rattle.tl_map_rules.specs.Listing.Keeping.Numbers.{with_sides}
use Rattle.tl_map_rules.specs.Listing.Keeping.Areas.{with_areas}

-- the keys, the LANDs and the links
pub record KeepsAreas (rs : List Record) (polygons : List PolyKey) (names : List NamedSide) (landmarks : List ℕ) (links : List LinkEntry) : Type 0 where
  pub entries : List SidesEntry
  pub moved : IsPermutation (sides_in rs) entries
  pub of_polygons : polygons ≡ keys (polygons_in rs)
  pub of_sides : names ≡ flat_map names_of entries
  pub of_landmarks : landmarks ≡ map (λ e. e.land) (landmarks_in rs)
  pub of_links : links ≡ links_in rs

-- the codes of the faults that chains and shapes tell
abbrev pub chain_codes : List ℕ
chain_codes = 12 ∷ 4 ∷ 3 ∷ 2 ∷ 1 ∷ []

-- the codes of all faults
abbrev pub all_codes : List ℕ
all_codes = 13 ∷ with_areas (with_sides chain_codes)

-- the faults of chains and shapes are told, no other is, and the segments are counted
pub record AreSegmentsTold (rs : List Record) (segments : ℕ) (faults : List RecordFault) : Type 0 where
  pub told : AreTold rs chain_codes faults
  pub of_chains : All IsFaultOfChains faults
  pub too_many : most_segments < segments → IsTooMany rs Segments
  pub few : IsTooMany rs Segments → most_segments < segments

-- the same, and these are the TLIDs of the chains
pub record AreChainsListed (rs : List Record) (tlids : List ℕ) (segments : ℕ) (faults : List RecordFault) : Type 0 where
  pub are : AreChainTlids rs tlids
  pub segments_told : AreSegmentsTold rs segments faults

-- the same, and of chains it is told whether there are too many
pub record AreCountsTold (rs : List Record) (chains segments : ℕ) (faults : List RecordFault) : Type 0 where
  pub segments_told : AreSegmentsTold rs segments faults
  pub too_many : most_chains < chains → IsTooMany rs Chains
  pub few : IsTooMany rs Chains → most_chains < chains

-- the faults of keys and LANDs are told too, and the landmarks are counted
pub record AreAreaCounts (rs : List Record) (codes : List ℕ) (count : ℕ) (faults : List RecordFault) : Type 0 where
  pub told : AreTold rs (with_areas codes) faults
  pub landmarks : count ≡ length (first_landmarks rs)
