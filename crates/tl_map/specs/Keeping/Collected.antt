-- Kept on the way: the type 1 and type 2 records read so far.
use Rattle.std.specs.Prelude.{◌≡◌, List, map, All}
use Rattle.std.specs.List.{filter_map}
use Rattle.tl_record.specs.declared.record.Record.{Record}
use Rattle.tl_map_rules.specs.Listing.Kept.{chain_at, shape_at, HasChains}
use Rattle.tl_map_rules.specs.Listing.Shapes.{summary_in, IsInside}
use Rattle.tl_map.specs.declared.collect.Collected.{Collected}
use Rattle.tl_map.specs.Keeping.Entries.{AreShapeEntries}

-- the records are kept, in file order
pub record Collects (rs : List Record) (c : Collected) : Type 0 where
  pub chains : c.chains.items ≡ filter_map chain_at rs
  pub shapes : AreShapeEntries rs c.pool.items c.shapes.items
  pub summaries : map (summary_in c.pool.items) c.shapes.items ≡ filter_map shape_at rs

-- what tells their faults is left, in any order
pub record LeavesChains (rs : List Record) (c : Collected) : Type 0 where
  pub chains : HasChains rs c.chains.items (map (summary_in c.pool.items) c.shapes.items)
  pub inside : All (IsInside c.pool.items) c.shapes.items
