-- Kept on the way: what sorted entries must be to be joined, and what building answers.
use Rattle.std.specs.Prelude.{◌≡◌, ℕ, ◌≤◌, false, List, All}
use Rattle.tl_record.specs.declared.record.Record.{Record}
use Rattle.tl_map_rules.specs.declared.entry.ChainEntry.{ChainEntry}
use Rattle.tl_map_rules.specs.declared.entry.ShapeEntry.{ShapeEntry}
use Rattle.tl_map_rules.specs.declared.fault.MapStop.{MapStop}
use Rattle.tl_map_rules.specs.declared.fault.MapStop.TheVariants.{Refused, Device, Memory, Fault, NoRecords}
use Rattle.tl_map_county.specs.Chains.{CompleteChain, IsProperChain, ChainList}
use Rattle.tl_map_rules.specs.ChainsOf.{AreChainsOf, has_gap, pairs_of}
use Rattle.tl_map_rules.specs.Faults.{IsTrueOf, HaveNoChainFault}
use Rattle.tl_map.specs.Keeping.Entries.{chains_with, AreEntriesRising, ArePlaced}

-- sorted entries can be joined
pub record AreSound (rs : List Record) (chains : List ChainEntry) (shapes : List ShapeEntry) : Type 0 where
  pub rising : AreEntriesRising chains
  pub known : All (λ s. 1 ≤ chains_with s.tlid chains) shapes
  pub placed : ArePlaced shapes
  pub no_gap : (t : ℕ) → has_gap (pairs_of rs t) ≡ false

-- the chains are those of the records, which have no fault
pub record AreBuilt (rs : List Record) (skipped : ℕ) (c : ChainList) : Type 0 where
  pub chains : AreChainsOf rs c.chains
  pub skipped_lines : c.skipped ≡ skipped
  pub no_fault : HaveNoChainFault rs
  pub proper : All (λ (x : CompleteChain). IsProperChain x.points) c.chains

-- why the records give no chains: memory was refused, or they have the fault
abbrev pub StopsBuilding : List Record → MapStop → Type 0
StopsBuilding rs Memory = Unit {0}
StopsBuilding rs Device = ⊥
StopsBuilding rs (Refused line cause) = ⊥
StopsBuilding rs (Fault fault) = IsTrueOf rs fault
StopsBuilding rs (NoRecords lacking) = ⊥
