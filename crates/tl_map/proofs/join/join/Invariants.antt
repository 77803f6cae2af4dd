use Rattle.std.proofs.Common.{◌≡◌, ◌≢◌, ℕ, ◌+◌, ◌<◌, ◌≤◌, length, get_or, map, take}
use Rattle.tl_map_rules.specs.declared.entry.ChainEntry.{ChainEntry}
use Rattle.tl_map_rules.specs.declared.entry.ShapeEntry.{ShapeEntry}
use Rattle.tl_map_county.specs.declared.limits.TheConstants.{SEGMENT_LIMIT}
use Rattle.tl_map.specs.Keeping.Entries.{joined}
use Rattle.tl_map_county.specs.Rows.{IsTable, chains_in}
use Rattle.tl_map.proofs.join.join.Given as goal

abbrev pub invariant-loop-chain : goal.invariant-loop-chain
invariant-loop-chain l = record {
  within : l.start ≤ length l.shapes;
  behind : (k m : ℕ) (d : ShapeEntry) (e : ChainEntry) → k < l.start → l.chain-index ≤ m → m < length l.chains → (get_or l.shapes k d).tlid < (get_or l.chains m e).tlid;
  ahead : (k : ℕ) (d : ShapeEntry) (e : ChainEntry) → l.start ≤ k → k < length l.shapes → l.chain-index < length l.chains → (get_or l.chains l.chain-index e).tlid ≤ (get_or l.shapes k d).tlid;
  table : IsTable l.points.items l.rows.items;
  count : length l.rows.items ≡ l.chain-index;
  few : length l.points.items ≤ SEGMENT_LIMIT + length l.rows.items;
  are : chains_in l.points.items l.rows.items ≡ map (joined l.pool l.shapes) (take l.chain-index l.chains);
  several : (k : ℕ) (d : ChainEntry) → k < l.chain-index → length (joined l.pool l.shapes (get_or l.chains k d)).points ≢ 1;
}
