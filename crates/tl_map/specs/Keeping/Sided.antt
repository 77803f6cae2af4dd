-- Kept on the way: type I records by TLID, and the sides that their keys name.
use Rattle.std.specs.Prelude.{◌≡◌, ◌≢◌, ℕ, Option, Some, List, map, Any, Contains}
use Rattle.tl_record_key.specs.declared.key.PolyKey.{PolyKey}
use Rattle.tl_map_rules.specs.declared.entry.SidesEntry.{SidesEntry}
use Rattle.tl_map_county.specs.declared.sides.ChainSides.{ChainSides}
use Rattle.tl_map_county.specs.declared.sides.Side.{Side}
use Rattle.std.specs.List.Sorted.{IsNonDecreasingBy, IsPermutation}
use Rattle.tl_map_rules.specs.Faults.{Names}
use Rattle.tl_map_rules.specs.MapOf.{side_of}

-- what lies on the sides of a record's chain
abbrev pub sided_by : List PolyKey → SidesEntry → ChainSides
sided_by ks s = record { left = side_of ks s.left; right = side_of ks s.right; start_cell = s.start_cell; end_cell = s.end_cell }

-- the side of a key, which is one of the keys
pub record IsSide (ks : List PolyKey) (key : Option PolyKey) (s : Side) : Type 0 where
  pub is : s ≡ side_of ks key
  pub known : (k : PolyKey) → key ≡ Some k → Contains ks k

-- the keys of both sides are among the keys
abbrev pub NamesKnown : List PolyKey → SidesEntry → Type 0
NamesKnown ks s = (k : PolyKey) → Names s k → Contains ks k

-- a side's key isn't one of the keys
abbrev pub IsKeyUnknown : List PolyKey → Option PolyKey → Type 0
IsKeyUnknown ks key = (k : PolyKey) × (key ≡ Some k) × ¬ Contains ks k

-- one of the records names a key that isn't one of the keys
abbrev pub AreNamesUnknown : List PolyKey → List SidesEntry → Type 0
AreNamesUnknown ks entries = (k : PolyKey) × Any (λ s. Names s k) entries × ¬ Contains ks k

-- the TLIDs of type I records
abbrev pub sides_tlids : List SidesEntry → List ℕ
sides_tlids sides = map (λ s. s.tlid) sides

-- the records of the chains, in their order
pub record ArePaired (ts : List ℕ) (old new : List SidesEntry) : Type 0 where
  pub same : sides_tlids new ≡ ts
  pub moved : IsPermutation old new

-- by TLID the records aren't those of the chains
pub record AreUnpaired (ts : List ℕ) (sides : List SidesEntry) : Type 0 where
  pub ordered : IsNonDecreasingBy (λ (s : SidesEntry). s.tlid) sides
  pub others : sides_tlids sides ≢ ts
