-- Kept on the way: chains with their sides, and what makes the whole map.
use Rattle.std.specs.Prelude.{◌≡◌, ℕ, Option, List, All, map}
use Rattle.tl_record_key.specs.declared.key.PolyKey.{PolyKey}
use Rattle.tl_record.specs.declared.record.Record.{Record}
use Rattle.tl_map.specs.declared.areas.AreaRecords.{AreaRecords}
use Rattle.tl_map.specs.Keeping.Index.{Numbers}
use Rattle.tl_map_county.specs.declared.sides.ChainSides.{ChainSides}
use Rattle.tl_map_county.specs.declared.landmarks.LinkedLandmarks.{LinkedLandmarks}
use Rattle.tl_map_county.specs.Chains.{ChainList, tlids}
use Rattle.tl_map_county.specs.TheMap.{TheMap}
use Rattle.tl_map_rules.specs.declared.entry.SidesEntry.{SidesEntry}
use Rattle.tl_map_rules.specs.MapOf.{IsMapOf, keys}
use Rattle.tl_map_rules.specs.Faults.{HaveNoFault}
use Rattle.tl_map.specs.Keeping.Sided.{ArePaired, sided_by, NamesKnown}
use Rattle.tl_map.specs.Keeping.Landmarks.{AreLinked}

-- the sides are those of the chains by their type I records, and the landmarks are linked
pub record AreLinkedAreas (c : ChainList) (areas : AreaRecords) (sides : List ChainSides) (l : LinkedLandmarks) : Type 0 where
  pub paired : List SidesEntry
  pub pairs : ArePaired (tlids c.chains) areas.sides paired
  pub found : PolyKey → Option ℕ
  pub numbers : Numbers (keys areas.polygons.items) found
  pub resolved : sides ≡ map (sided_by (keys areas.polygons.items)) paired
  pub known : All (NamesKnown (keys areas.polygons.items)) paired
  pub linked : AreLinked (keys areas.polygons.items) areas.landmarks.items areas.links.items l

-- the map is that of the records, which have no fault
pub record AreMapped (rs : List Record) (skipped : ℕ) (m : TheMap) : Type 0 where
  pub map : IsMapOf rs m
  pub skipped_lines : m.skipped ≡ skipped
  pub no_fault : HaveNoFault rs
