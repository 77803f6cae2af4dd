-- Kept on the way: the rows of chains among the points of all chains.
use Rattle.std.specs.Prelude.{◌≡◌, ◌≢◌, ℕ, ◌+◌, ◌⊎◌, ◌<◌, ◌≤◌, List, [], ◌∷◌, ◌++◌, length, map, All, Any}
use Rattle.std.specs.List.{dedup, flat_map}
use Rattle.tl_geom.specs.declared.point.Point.{Point}
use Rattle.tl_map_rules.specs.declared.entry.ChainEntry.{ChainEntry}
use Rattle.tl_map_rules.specs.declared.entry.ShapeEntry.{ShapeEntry}
use Rattle.tl_map_county.specs.declared.limits.TheConstants.{SEGMENT_LIMIT}
use Rattle.tl_map_county.specs.declared.chains.ChainRow.{ChainRow}
use Rattle.tl_map_county.specs.Chains.{CompleteChain, ChainList, segment_count}
use Rattle.tl_map_county.specs.Rows.{IsTable, chains_in}
use Rattle.tl_record.specs.Joining.{same_point}
use Rattle.tl_map_rules.specs.Listing.Shapes.{entry_points}
use Rattle.tl_map.specs.Keeping.Entries.{joined}

-- the points of a chain with these between its start and its end
abbrev pub drawn_through : ChainEntry → List Point → List Point
drawn_through c between = dedup same_point (c.from ∷ (between ++ c.to ∷ []))

-- the chain of an entry with the points of its shapes
abbrev pub drawn_by : List Point → ChainEntry → List ShapeEntry → CompleteChain
drawn_by pool c run = record { tlid = c.tlid; points = drawn_through c (flat_map (entry_points pool) run) }

-- the rows and the points have one chain more, of several points, and not too many points
pub record IsAdded (c : CompleteChain) (old : List Point) (old_rows : List ChainRow) (new : List Point) (new_rows : List ChainRow) : Type 0 where
  pub table : IsTable new new_rows
  pub few : length new ≤ SEGMENT_LIMIT + length new_rows
  pub added : chains_in new new_rows ≡ chains_in old old_rows ++ c ∷ []
  pub rows : length new_rows ≡ length old_rows + 1
  pub several : length c.points ≢ 1

-- the chains of the entries, each of several points, and not too many segments
pub record AreJoinedBy (pool : List Point) (shapes : List ShapeEntry) (entries : List ChainEntry) (skipped : ℕ) (c : ChainList) : Type 0 where
  pub are : c ≡ record { chains = map (joined pool shapes) entries; skipped = skipped }
  pub several : All (λ e. length (joined pool shapes e).points ≢ 1) entries
  pub few : segment_count (map (joined pool shapes) entries) ≤ SEGMENT_LIMIT

-- the chain is one point, or with it there are too many segments
abbrev pub IsUnjoinable : List CompleteChain → CompleteChain → Type 0
IsUnjoinable chains c = (length c.points ≡ 1) ⊎ (SEGMENT_LIMIT < segment_count (chains ++ c ∷ []))

-- one of the chains is one point, or they have too many segments
abbrev pub AreUnjoinable : List CompleteChain → Type 0
AreUnjoinable chains = Any (λ c. length c.points ≡ 1) chains ⊎ (SEGMENT_LIMIT < segment_count chains)
