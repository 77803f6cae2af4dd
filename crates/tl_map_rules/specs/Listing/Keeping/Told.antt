-- Kept on the way: the faults that are told so far.
use Rattle.std.specs.Prelude.{ℕ, ◌⊎◌, Bool, List, [], ◌∷◌, All, Contains}
use Rattle.std.specs.Bool.{Decides}
use Rattle.std.specs.List.{AllPairs}
use Rattle.tl_record.specs.declared.record.Record.{Record}
use Rattle.tl_map_rules.specs.declared.fault.RecordFault.{RecordFault}
use Rattle.tl_map_rules.specs.Faults.{IsTrueOf, AreJoined, IsFaultOfChains}
use Rattle.tl_map_rules.specs.Listing.AllFaults.{fault_place, IsListedBefore}

-- the same faults, each before all later ones
pub record AreOrdered (old new : List RecordFault) : Type 0 where
  pub each : All (Contains old) new
  pub every : All (Contains new) old
  pub in_order : AllPairs IsListedBefore new

-- the faults that P says are told, and those that were told before stay
pub record Tells (P : RecordFault → Type 0) (old new : List RecordFault) : Type 0 where
  pub each : All (λ f. Contains old f ⊎ P f) new
  pub stay : All (Contains new) old
  pub every : (f : RecordFault) → P f → Contains new f

-- all faults of these codes are told, and none that is not true
pub record AreTold (rs : List Record) (codes : List ℕ) (faults : List RecordFault) : Type 0 where
  pub each : All (IsTrueOf rs) faults
  pub every : (f : RecordFault) → IsTrueOf rs f → Contains codes (fault_place f).0 → Contains faults f

-- the faults of chains and shapes are told, no other is, and it is said whether there is none
pub record AreChainsTold (rs : List Record) (joined : Bool) (faults : List RecordFault) : Type 0 where
  pub told : AreTold rs (4 ∷ 3 ∷ 2 ∷ 1 ∷ []) faults
  pub of_chains : All IsFaultOfChains faults
  pub are_joined : Decides joined (AreJoined rs)
