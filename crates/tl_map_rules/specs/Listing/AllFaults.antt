-- All faults of a list of records, in their order.
use Rattle.std.specs.Prelude.{◌≡◌, ℕ, List, [], ◌∷◌, All, Contains}
use Rattle.std.specs.declared.cmp.Ordering.{Ordering}
use Rattle.std.specs.declared.cmp.Ordering.TheVariants.{Less}
use Rattle.std.specs.Ordering.{ordering_then, nat_cmp}
use Rattle.std.specs.List.{AllPairs}
use Rattle.std.specs.Cmp.Lexicographic.{slice_cmp}
use Rattle.tl_record.specs.declared.record.Record.{Record}
use Rattle.tl_map_rules.specs.declared.fault.Limited.{Limited}
use Rattle.tl_map_rules.specs.declared.fault.Limited.TheVariants.{Chains, Segments, Polygons, Landmarks}
use Rattle.tl_map_rules.specs.declared.fault.RecordFault.{RecordFault}
use Rattle.tl_map_rules.specs.declared.fault.RecordFault.TheVariants.{DuplicateChain, ShapeWithoutChain, ShapeSequence, ShapeGap, ChainWithoutSides, SidesWithoutChain, DuplicateSides, DuplicatePolygon, SideWithoutPolygon, LinkWithoutLandmark, LinkWithoutPolygon, DegenerateChain, TooMany}
use Rattle.tl_map_rules.specs.Faults.{IsTrueOf, IsFaultOfChains}

-- what faults are ordered by: the code, then TLID, CENID, POLYID and LAND
abbrev pub SortKey : Type 0
SortKey = ℕ × ℕ × List ℕ × ℕ × ℕ

-- the CENID in the place of a fault that has none
abbrev pub no_cenid : List ℕ
no_cenid = 0 ∷ 0 ∷ 0 ∷ 0 ∷ 0 ∷ []

-- the place of a fault that has a TLID and no more
abbrev pub by_tlid : ℕ → ℕ → SortKey
by_tlid code t = (code, t, no_cenid, 0, 0)

-- the order of what there can be too many of
abbrev pub limited_number : Limited → ℕ
limited_number Chains = 0
limited_number Segments = 1
limited_number Polygons = 2
limited_number Landmarks = 3

-- the code of a fault and its numbers; a number that it doesn't have is 0
abbrev pub fault_place : RecordFault → SortKey
fault_place (DuplicateChain t) = by_tlid 1 t
fault_place (ShapeWithoutChain t) = by_tlid 2 t
fault_place (ShapeSequence t) = by_tlid 3 t
fault_place (ShapeGap t) = by_tlid 4 t
fault_place (ChainWithoutSides t) = by_tlid 5 t
fault_place (SidesWithoutChain t) = by_tlid 6 t
fault_place (DuplicateSides t) = by_tlid 7 t
fault_place (DuplicatePolygon k) = (8, 0, k.cenid, k.polyid, 0)
fault_place (SideWithoutPolygon t k) = (9, t, k.cenid, k.polyid, 0)
fault_place (LinkWithoutLandmark n) = (10, 0, no_cenid, 0, n)
fault_place (LinkWithoutPolygon k n) = (11, 0, k.cenid, k.polyid, n)
fault_place (DegenerateChain t) = by_tlid 12 t
fault_place (TooMany what) = by_tlid 13 (limited_number what)

-- the first part in which two places differ decides, and of two CENIDs the first byte in which they differ
abbrev pub place_cmp : SortKey → SortKey → Ordering
place_cmp p q = ordering_then (ordering_then (ordering_then (ordering_then (nat_cmp p.0 q.0) (nat_cmp p.1 q.1)) (slice_cmp nat_cmp p.2 q.2)) (nat_cmp p.3 q.3)) (nat_cmp p.4 q.4)

-- one fault comes before the other: by its code, then by its numbers
abbrev pub IsListedBefore : RecordFault → RecordFault → Type 0
IsListedBefore f g = place_cmp (fault_place f) (fault_place g) ≡ Less

-- all faults that are true of the records, each before all later ones, so that none stands twice
pub record AreAllFaults (rs : List Record) (faults : List RecordFault) : Type 0 where
  pub each : All (IsTrueOf rs) faults
  pub every : (fault : RecordFault) → IsTrueOf rs fault → Contains faults fault
  pub in_order : AllPairs IsListedBefore faults

-- the same of the faults of the chains alone
pub record AreAllChainFaults (rs : List Record) (faults : List RecordFault) : Type 0 where
  pub each : All (λ f. IsTrueOf rs f × IsFaultOfChains f) faults
  pub every : (fault : RecordFault) → IsTrueOf rs fault → IsFaultOfChains fault → Contains faults fault
  pub in_order : AllPairs IsListedBefore faults
