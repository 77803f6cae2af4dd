-- Kept on the way: how much a county has of each thing.
use Rattle.std.specs.Prelude.{◌≡◌, ℕ, ◌<◌, nat_lt, ◌⊎◌, Bool, true, List, length}
use Rattle.tl_record.specs.declared.record.Record.{Record}
use Rattle.tl_map_rules.specs.declared.fault.Limited.{Limited}
use Rattle.tl_map_rules.specs.declared.fault.Limited.TheVariants.{Chains, Segments}
use Rattle.tl_map_rules.specs.declared.fault.RecordFault.{RecordFault}
use Rattle.tl_map_rules.specs.declared.fault.RecordFault.TheVariants.{TooMany}
use Rattle.tl_map_rules.specs.MapOf.{polygons_in, first_landmarks}
use Rattle.tl_map_rules.specs.Faults.{IsTooMany}
use Rattle.tl_map_county.specs.Limits.{most_chains, most_segments}
use Rattle.tl_map_rules.specs.declared.listing.limits.RecordCounts.{RecordCounts}

-- the fault is that there is too much of something, where there is
pub record IsMore (is_more : Bool) (what : Limited) (f : RecordFault) : Type 0 where
  pub is : f ≡ TooMany what
  pub more : is_more ≡ true

-- the fault is that there are too many chains or segments, where there are
abbrev pub IsMoreOfChains : ℕ → ℕ → RecordFault → Type 0
IsMoreOfChains chains segments f = IsMore (nat_lt most_chains chains) Chains f ⊎ IsMore (nat_lt most_segments segments) Segments f

-- the counts of the records; of chains and segments it is told alone whether there are too many
pub record AreCounts (rs : List Record) (c : RecordCounts) : Type 0 where
  pub too_many_chains : most_chains < c.chains → IsTooMany rs Chains
  pub few_chains : IsTooMany rs Chains → most_chains < c.chains
  pub too_many_segments : most_segments < c.segments → IsTooMany rs Segments
  pub few_segments : IsTooMany rs Segments → most_segments < c.segments
  pub polygons : c.polygons ≡ length (polygons_in rs)
  pub landmarks : c.landmarks ≡ length (first_landmarks rs)
