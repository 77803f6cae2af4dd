use Rattle.std.proofs.Common.{◌≡◌, ◌≢◌, ℕ, ◌<◌, ◌≤◌, eqb, inl, inr, List, [], ◌∷◌, length, count_by, refl, ◌∙◌, arith}
use Rattle.std.proofs.lemmas.Bool.{eq-eqb, eqb-true, cases_lt}
use Rattle.std.specs.List.Sorted.{IsNonDecreasing, IsStrictlyIncreasing}
use Rattle.std.proofs.lemmas.List.{get_or_default}
use Rattle.tl_record.specs.declared.record.Record.{Record}
use Rattle.tl_map_county.specs.Chains.{CompleteChain, tlids}
use Rattle.tl_map_rules.specs.ChainsOf.{is_chain, AreChainsOf}
use Rattle.tl_map_rules.specs.Faults.{IsChainRepeated, IsTrueOf, IsFaultOfChains, HaveNoFault, HaveNoChainFault}
use Rattle.tl_map_rules.specs.declared.fault.Limited.TheVariants.{Chains, Segments}
use Rattle.tl_map_rules.specs.declared.fault.RecordFault.TheVariants.{DuplicateChain, ShapeWithoutChain, ShapeSequence, ShapeGap, DegenerateChain, TooMany}
use Rattle.tl_map_rules.specs.declared.fault.RecordFault.{RecordFault}
use Rattle.tl_map.specs.declared.areas.AreaRecords.{AreaRecords}
use Rattle.tl_map.specs.Keeping.Areas.{KeepsAreas, LeavesAreas, AreSameAreas}
use Rattle.tl_map_rules.specs.Listing.AllFaults.{AreAllFaults, AreAllChainFaults}
use Rattle.std.proofs.lemmas.List.Sorted.{IsPermutation-refl}
use Rattle.tl_map_rules.proofs.KnownLemmas.{chain_known}
use Rattle.tl_map_rules.specs.Listing.Kept.{AreChainTlids}
use Rattle.tl_map_rules.proofs.ListingLemmas.CountedLemmas.{counted_stands, stands_counted, next_from_twice, has_chain, counted_chain}
use Rattle.tl_map_rules.proofs.ListingLemmas.LimitLemmas.{rises}

-- the TLIDs of the chains are those of the type 1 records
pub tlids_often : (rs : List Record) (chains : List CompleteChain) → AreChainsOf rs chains → ((t : ℕ) → ¬ IsChainRepeated rs t) → AreChainTlids rs (tlids chains)
tlids_often rs chains are once t =
    let ts = tlids chains in
    let here = count_by (λ (x : ℕ). eqb x t) ts in
    let there = count_by (is_chain t) rs in
    let one : here ≤ 1 = elim (cases_lt 1 here) [
      | inl many ↦ let two = next_from_twice ts t (rises ts are.rising) many in absurd (omega (arith, are.rising two.0 two.1, two.2 0, two.3 0))
      | inr few ↦ few
    ] in
    let other : there ≤ 1 = elim (cases_lt 1 there) [ inl many ↦ absurd (once t many) | inr few ↦ few ] in
    elim (cases_lt 0 here) [
      | inl some ↦ let more = counted_chain rs t (chain_known rs chains t are (counted_stands eqb eqb-true ts t some)) in omega (arith, one, other, some, more)
      | inr none ↦ elim (cases_lt 0 there) [
        | inl some ↦
            let has = has_chain rs t some in
            let more = stands_counted eqb (λ x. eq-eqb x x refl) ts t (are.complete t has.0 has.1 has.2) in
            omega (arith, more, none)
        | inr no_more ↦ omega (arith, none, no_more)
      ]
    ]

-- what is kept tells all faults, in any order
pub leaves_same : (rs : List Record) (old new : AreaRecords) → KeepsAreas rs old → AreSameAreas old new → LeavesAreas rs new
leaves_same rs old new keeps same = record {
  sides = rw keeps.sides at same.sides;
  polygons = same.polygons ∙ keeps.polygons;
  landmarks = same.landmarks ∙ keeps.landmarks;
  links = same.links ∙ keeps.links;
}

pub leaves_areas : (rs : List Record) (areas : AreaRecords) → KeepsAreas rs areas → LeavesAreas rs areas
leaves_areas rs areas keeps = leaves_same rs areas areas keeps (record { sides = IsPermutation-refl areas.sides; polygons = refl; landmarks = refl; links = refl })

-- where some fault is true, some are told
pub some_told : (rs : List Record) (faults : List RecordFault) → AreAllFaults rs faults → ¬ HaveNoFault rs → faults ≢ []
some_told rs faults all why none = why (λ fault holds. let has = rw none at (all.every fault holds) in omega (arith, has.1))

-- and of the chains
pub some_chain_told : (rs : List Record) (faults : List RecordFault) → AreAllChainFaults rs faults → ¬ HaveNoChainFault rs → faults ≢ []
some_chain_told rs faults all why none = why (record {
  once = λ t holds. never (DuplicateChain t) holds tt;
  no_stray = λ t holds. never (ShapeWithoutChain t) holds tt;
  in_sequence = λ t holds. never (ShapeSequence t) holds tt;
  no_gap = λ t holds. never (ShapeGap t) holds tt;
  not_degenerate = λ t holds. never (DegenerateChain t) holds tt;
  few_chains = λ holds. never (TooMany Chains) holds tt;
  few_segments = λ holds. never (TooMany Segments) holds tt;
})
  where
    never : (fault : RecordFault) → IsTrueOf rs fault → ¬ IsFaultOfChains fault
    never fault holds of_chains = let has = rw none at (all.every fault holds of_chains) in omega (arith, has.1)

-- a list that isn't empty has some items
pub some_items : (faults : List RecordFault) → faults ≢ [] → 0 < length faults
some_items [] some = absurd (some refl)
some_items (f ∷ faults) some = omega arith

-- records that have no fault have none of the chains
pub none_of_chains : (rs : List Record) → HaveNoFault rs → HaveNoChainFault rs
none_of_chains rs none = record {
  once = λ t. none (DuplicateChain t);
  no_stray = λ t. none (ShapeWithoutChain t);
  in_sequence = λ t. none (ShapeSequence t);
  no_gap = λ t. none (ShapeGap t);
  not_degenerate = λ t. none (DegenerateChain t);
  few_chains = none (TooMany Chains);
  few_segments = none (TooMany Segments);
}
