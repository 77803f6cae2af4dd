-- Kept on the way: what a reader has given and what is still to come.
use Rattle.std.specs.Prelude.{◌≡◌, ℕ, List, ◌++◌, Option, Some, None, IfSome}
use Rattle.tl_record.specs.declared.record.Record.{Record}
use Rattle.tl_record.specs.Records.{Records}
use Rattle.tl_map.specs.declared.collect.Collected.{Collected}
use Rattle.tl_map_rules.specs.declared.fault.MapStop.{MapStop}
use Rattle.tl_map_rules.specs.declared.fault.MapStop.TheVariants.{Refused, Device, Memory, Fault, NoRecords}
use Rattle.tl_map.specs.declared.areas.AreaRecords.{AreaRecords}
use Rattle.tl_map.specs.declared.joined.told.ToldRecords.{ToldRecords}
use Rattle.tl_map.specs.Joined.Told.{HasTold}
use Rattle.tl_map.specs.Keeping.Areas.{KeepsAreas}
use Rattle.tl_map.specs.Keeping.Collected.{Collects}
use Rattle.tl_map_rules.specs.Reading.{records_in}

-- the records so far, and what was to come at first is these and what comes now
pub record GathersSoFar (at_first now : Option Records) (c : Collected) : Type 0 where
  pub records : List Record
  pub kept : Collects records c
  pub known : IfSome at_first (λ all. (rest : Records) × (now ≡ Some rest) × (records_in all ≡ records ++ records_in rest) × (all.refusal ≡ rest.refusal) × (all.skipped ≡ rest.skipped))

-- all records that were to come, none of which is refused
pub record Gathers (at_first : Option Records) (skipped : ℕ) (c : Collected) : Type 0 where
  pub records : List Record
  pub kept : Collects records c
  pub known : IfSome at_first (λ all. (records_in all ≡ records) × (all.refusal ≡ None) × (all.skipped ≡ skipped))

-- the same with the records of all types
pub record GathersAllSoFar (at_first now : Option Records) (c : Collected) (a : AreaRecords) : Type 0 where
  pub records : List Record
  pub kept : Collects records c
  pub areas : KeepsAreas records a
  pub known : IfSome at_first (λ all. (rest : Records) × (now ≡ Some rest) × (records_in all ≡ records ++ records_in rest) × (all.refusal ≡ rest.refusal) × (all.skipped ≡ rest.skipped))

pub record GathersAll (at_first : Option Records) (skipped : ℕ) (c : Collected) (a : AreaRecords) : Type 0 where
  pub records : List Record
  pub kept : Collects records c
  pub areas : KeepsAreas records a
  pub known : IfSome at_first (λ all. (records_in all ≡ records) × (all.refusal ≡ None) × (all.skipped ≡ skipped))

-- the same of records that are kept until they are joined
pub record GathersToldSoFar (at_first now : Option Records) (told : ToldRecords) : Type 0 where
  pub records : List Record
  pub kept : HasTold records told
  pub known : IfSome at_first (λ all. (rest : Records) × (now ≡ Some rest) × (records_in all ≡ records ++ records_in rest) × (all.refusal ≡ rest.refusal) × (all.skipped ≡ rest.skipped))

pub record GathersTold (at_first : Option Records) (skipped : ℕ) (told : ToldRecords) : Type 0 where
  pub records : List Record
  pub kept : HasTold records told
  pub known : IfSome at_first (λ all. (records_in all ≡ records) × (all.refusal ≡ None) × (all.skipped ≡ skipped))

-- these records are collected, of all types
pub record CollectsAll (rs : List Record) (made : Collected × AreaRecords) : Type 0 where
  pub kept : Collects rs made.0
  pub areas : KeepsAreas rs made.1

-- why not all records come
abbrev pub StopsGathering : Option Records → MapStop → Type 0
StopsGathering at_first Device = Unit {0}
StopsGathering at_first Memory = Unit {0}
StopsGathering at_first (Refused line cause) = IfSome at_first (λ all. all.refusal ≡ Some (line, cause))
StopsGathering at_first (Fault fault) = ⊥
StopsGathering at_first (NoRecords lacking) = ⊥
