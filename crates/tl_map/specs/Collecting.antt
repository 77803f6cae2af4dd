-- Records that were collected, and the map that is built of them.
use Rattle.std.specs.Prelude.{◌≡◌, ◌≢◌, ℕ, ⊤, List, []}
use Rattle.tl_record.specs.declared.record.Record.{Record}
use Rattle.tl_map_county.specs.TheMap.{TheMap}
use Rattle.tl_map_rules.specs.Faults.{HaveNoFault}
use Rattle.tl_map_rules.specs.MapOf.{IsMapOf}
use Rattle.tl_map_rules.specs.Listing.AllFaults.{AreAllFaults}
use Rattle.tl_map.specs.declared.no_map.NoMap.{NoMap}
use Rattle.tl_map.specs.declared.no_map.NoMap.TheVariants.{Memory, Faults}
use Rattle.tl_map.specs.declared.collected.CollectedRecords.{CollectedRecords}
use Rattle.tl_map.specs.Keeping.Collected.{Collects}
use Rattle.tl_map.specs.Keeping.Areas.{KeepsAreas}

-- these records were collected, in this order, and no other
pub record HasCollected (rs : List Record) (c : CollectedRecords) : Type 0 where
  pub lines : Collects rs c.lines
  pub areas : KeepsAreas rs c.areas

-- the map is that of the records, which have no fault, with so many lines passed over
pub record IsMapOfRecords (rs : List Record) (skipped : ℕ) (m : TheMap) : Type 0 where
  pub no_fault : HaveNoFault rs
  pub map : IsMapOf rs m
  pub skipped_lines : m.skipped ≡ skipped

-- why records have no map: memory was refused, or these are all of their faults, and there are some
abbrev pub StopsOn : List Record → NoMap → Type 0
StopsOn rs Memory = ⊤
StopsOn rs (Faults faults) = AreAllFaults rs faults.items × (faults.items ≢ [])
