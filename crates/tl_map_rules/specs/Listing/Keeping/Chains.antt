-- Kept on the way: chains that are one point, and the segments of chains.
use Rattle.std.specs.Prelude.{◌≡◌, ℕ, ◌<◌, Bool, true, ◌==◌, nat_lt, List, length, count_by, slice_index_or}
use Rattle.tl_map_rules.specs.declared.entry.ChainEntry.{ChainEntry}
use Rattle.tl_map_rules.specs.declared.fault.RecordFault.{RecordFault}
use Rattle.tl_map_rules.specs.declared.fault.RecordFault.TheVariants.{DegenerateChain}
use Rattle.tl_map_rules.specs.declared.listing.shape.ShapeSummary.{ShapeSummary}
use Rattle.tl_map_rules.specs.Listing.Keeping.Runs.{run_of, seen_in_run, chain_steps, is_one_point}

-- has no more than one chain the TLID
abbrev pub is_alone : List ChainEntry → ℕ → Bool
is_alone chains t = nat_lt (count_by (λ c. c.tlid == t) chains) 2

-- the fault is that one of the first chains is one point, and no other chain has its TLID
pub record IsOnePointFault (chains : List ChainEntry) (shapes : List ShapeSummary) (end : ℕ) (f : RecordFault) : Type 0 where
  pub chain : ChainEntry
  pub place : ℕ
  pub below : place < end
  pub within : place < length chains
  pub there : (d : ChainEntry) → slice_index_or chains place d ≡ chain
  pub is : f ≡ DegenerateChain chain.tlid
  pub alone : is_alone chains chain.tlid ≡ true
  pub one_point : is_one_point chain (run_of shapes chain.tlid) ≡ true

-- the segments of a chain with the shapes of its TLID
abbrev pub steps_with : List ShapeSummary → ChainEntry → ℕ
steps_with shapes c = chain_steps c (seen_in_run (run_of shapes c.tlid))
