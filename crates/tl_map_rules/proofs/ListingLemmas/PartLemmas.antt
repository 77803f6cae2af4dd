use Rattle.std.proofs.Common.{◌≡◌, ℕ, zero, suc, ◌<◌, ◌≤◌, Bool, true, false, cond, List, [], ◌∷◌, length, map, sum_by, All, Contains, refl, sym, subst, inl, inr, arith}
use Rattle.std.specs.Prelude.{min}
use Rattle.std.specs.Bool.{Decides}
use Rattle.std.specs.List.{filter_map}
use Rattle.std.specs.List.Sorted.{IsPermutation, IsNonDecreasing}
use Rattle.std.proofs.lemmas.Bool.{true≢false, ltb-true, lt-ltb}
use Rattle.std.proofs.lemmas.List.Elements.{All-weaker, All-contains}
use Rattle.std.proofs.lemmas.List.{length-map, get_or-map}
use Rattle.std.proofs.lemmas.List.Sums.{sum_by-cons}
use Rattle.std.proofs.lemmas.List.Sorted.{IsPermutation-map, IsPermutation-trans, length_permutation}
use Rattle.tl_record.specs.declared.record.Record.{Record}
use Rattle.tl_record.specs.declared.record.Record.TheVariants.{Chain, Shape, Sides, PolyPoint, Landmark, AreaLink}
use Rattle.tl_record_key.specs.declared.key.PolyKey.{PolyKey}
use Rattle.tl_map_county.specs.declared.polygons.Polygon.{Polygon}
use Rattle.tl_map_rules.specs.declared.entry.ChainEntry.{ChainEntry}
use Rattle.tl_map_rules.specs.declared.fault.Limited.TheVariants.{Chains, Segments, Polygons, Landmarks}
use Rattle.tl_map_rules.specs.declared.fault.RecordFault.{RecordFault}
use Rattle.tl_map_rules.specs.declared.fault.RecordFault.TheVariants.{DuplicateChain, ShapeWithoutChain, ShapeSequence, ShapeGap, ChainWithoutSides, SidesWithoutChain, DuplicateSides, DuplicatePolygon, SideWithoutPolygon, LinkWithoutLandmark, LinkWithoutPolygon, DegenerateChain, TooMany}
use Rattle.tl_map_rules.specs.ChainsOf.{shape_count, chain_count, is_any_chain}
use Rattle.tl_map_rules.specs.MapOf.{sides_in, polygons_in, keys}
use Rattle.tl_map_rules.specs.Faults.{IsTrueOf, IsTooMany, AreJoined, HaveNoChainFault, IsFaultOfChains}
use Rattle.tl_map_rules.specs.declared.entry.LinkEntry.{LinkEntry}
use Rattle.tl_map_rules.specs.declared.entry.SidesEntry.{SidesEntry}
use Rattle.tl_map_rules.specs.declared.listing.kept.NamedSide.{NamedSide}
use Rattle.tl_map_rules.specs.Listing.Keeping.Areas.{AreAreas}
use Rattle.tl_map_rules.specs.declared.listing.shape.ShapeSummary.{ShapeSummary}
use Rattle.tl_map_rules.specs.Listing.AllFaults.{fault_place, AreAllFaults, AreAllChainFaults}
use Rattle.tl_map_rules.specs.Listing.Kept.{chain_at, shape_at, HasChains}
use Rattle.tl_map_rules.specs.Listing.Keeping.Told.{Tells, AreTold, AreChainsTold, AreOrdered}
use Rattle.tl_map_rules.specs.Listing.Keeping.Numbers.{StandAsOften, chains_with, sides_with}
use Rattle.tl_map_rules.specs.Listing.Keeping.Runs.{AreInOrder, AreShapes}
use Rattle.tl_map_rules.specs.Listing.Keeping.Chains.{IsOnePointFault, steps_with}
use Rattle.tl_map_rules.specs.Listing.Keeping.Parts.{KeepsAreas, AreSegmentsTold, AreCountsTold, chain_codes, all_codes}
use Rattle.tl_map_rules.proofs.ListingLemmas.CountedLemmas.{chain_tlids, shape_tlids, side_tlids}
use Rattle.tl_map_rules.proofs.ListingLemmas.RunLemmas.{nothing}
use Rattle.tl_map_rules.proofs.ListingLemmas.ToldLemmas.{told_of}
use Rattle.tl_map_rules.specs.Listing.Keeping.Limits.{IsMoreOfChains}
use Rattle.tl_map_rules.proofs.ListingLemmas.PointLemmas.{told_degenerate, segments_told}

-- what is told of chains and shapes that are sorted
pub told_sorted : (rs : List Record) (chains : List ChainEntry) (shapes : List ShapeSummary) (tlids stlids : List ℕ) (joined : Bool) (segments : ℕ) (one two : List RecordFault) → HasChains rs chains shapes → AreInOrder shapes → tlids ≡ map (λ c. c.tlid) chains → stlids ≡ map (λ s. s.tlid) shapes → (StandAsOften (chains_with rs) tlids → StandAsOften (shape_count rs) stlids → AreShapes rs shapes → AreChainsTold rs joined one) → Tells (IsOnePointFault chains shapes (length chains)) one two → segments ≡ cond joined (min (sum_by (steps_with shapes) chains) 18446744073709551615) 0 → AreSegmentsTold rs segments two
told_sorted rs chains shapes tlids stlids joined segments one two sorted order tlids_are stlids_are chains_told points segments_are =
    let are : AreShapes rs shapes = record { moved = sorted.of_shapes; order = order } in
    let often : StandAsOften (chains_with rs) tlids = rw tlids_are (chain_tlids rs (filter_map chain_at rs) chains refl sorted.of_chains) in
    let shape_often : StandAsOften (shape_count rs) stlids = rw stlids_are (shape_tlids rs (filter_map shape_at rs) shapes refl sorted.of_shapes) in
    let first = chains_told often shape_often are in
    record {
      told = told_degenerate rs (4 ∷ 3 ∷ 2 ∷ 1 ∷ []) chains shapes one two sorted.of_chains are points first.told;
      of_chains = told_of IsFaultOfChains (IsOnePointFault chains shapes (length chains)) one two first.of_chains (λ f p. subst IsFaultOfChains (sym p.is) tt) points;
      too_many = λ many. upto joined refl first.are_joined are segments_are many;
      few = λ many. back joined refl first.are_joined are segments_are many;
    }
  where
    upto : (b : Bool) → b ≡ joined → Decides b (AreJoined rs) → AreShapes rs shapes → segments ≡ cond b (min (sum_by (steps_with shapes) chains) 18446744073709551615) 0 → 16777216 < segments → IsTooMany rs Segments
    upto true e join are is many = (join.0 refl, (segments_told rs chains shapes sorted.of_chains are (join.0 refl)).1 (omega (arith, many, is)))
    upto false e join are is many = absurd (omega (arith, many, is))

    back : (b : Bool) → b ≡ joined → Decides b (AreJoined rs) → AreShapes rs shapes → segments ≡ cond b (min (sum_by (steps_with shapes) chains) 18446744073709551615) 0 → IsTooMany rs Segments → 16777216 < segments
    back true e join are is many = let more = (segments_told rs chains shapes sorted.of_chains are many.0).0 many.1 in omega (arith, more, is)
    back false e join are is many = absurd (true≢false (sym (join.1 many.0)))

-- each fault has one of the codes
coded : (f : RecordFault) → Contains all_codes (fault_place f).0
coded (DuplicateChain t) = (12, omega arith, refl)
coded (ShapeWithoutChain t) = (11, omega arith, refl)
coded (ShapeSequence t) = (10, omega arith, refl)
coded (ShapeGap t) = (9, omega arith, refl)
coded (ChainWithoutSides t) = (7, omega arith, refl)
coded (SidesWithoutChain t) = (6, omega arith, refl)
coded (DuplicateSides t) = (5, omega arith, refl)
coded (DegenerateChain t) = (8, omega arith, refl)
coded (DuplicatePolygon k) = (4, omega arith, refl)
coded (SideWithoutPolygon t k) = (3, omega arith, refl)
coded (LinkWithoutLandmark n) = (2, omega arith, refl)
coded (LinkWithoutPolygon k n) = (1, omega arith, refl)
coded (TooMany what) = (0, omega arith, refl)

-- faults of all codes, in order, are all faults
pub all_told : (rs : List Record) (faults ordered : List RecordFault) → AreTold rs all_codes faults → AreOrdered faults ordered → AreAllFaults rs ordered
all_told rs faults ordered told order = record {
  each = All-weaker (Contains faults) (IsTrueOf rs) (λ f has. All-contains (IsTrueOf rs) faults f told.each has) ordered order.each;
  every = λ f holds. All-contains (Contains ordered) faults f order.every (told.every f holds (coded f));
  in_order = order.in_order;
}

-- faults of chains that are told, with too many of them, are all of theirs in order
pub all_of_chains : (rs : List Record) (chains segments : ℕ) (one two ordered : List RecordFault) → AreCountsTold rs chains segments one → Tells (IsMoreOfChains chains segments) one two → AreOrdered two ordered → AreAllChainFaults rs ordered
all_of_chains rs chains segments one two ordered counts tells order = record {
  each = All-weaker (Contains two) Is (λ f has. All-contains Is two f (told_of Is (IsMoreOfChains chains segments) one two before more tells) has) ordered order.each;
  every = every;
  in_order = order.in_order;
}
  where
    Is : RecordFault → Type 0
    Is f = IsTrueOf rs f × IsFaultOfChains f

    before : All Is one
    before k d lt = (counts.segments_told.told.each k d lt, counts.segments_told.of_chains k d lt)

    more : (f : RecordFault) → IsMoreOfChains chains segments f → Is f
    more f h = elim h [
      | inl m ↦ subst Is (sym m.is) (counts.too_many (ltb-true _ _ m.more), tt)
      | inr m ↦ subst Is (sym m.is) (counts.segments_told.too_many (ltb-true _ _ m.more), tt)
    ]

    of_code : (f : RecordFault) → IsTrueOf rs f → Contains chain_codes (fault_place f).0 → Contains ordered f
    of_code f holds among = All-contains (Contains ordered) two f order.every (All-contains (Contains two) one f tells.stay (counts.segments_told.told.every f holds among))

    every : (f : RecordFault) → IsTrueOf rs f → IsFaultOfChains f → Contains ordered f
    every (DuplicateChain t) holds of_chains = of_code (DuplicateChain t) holds (4, omega arith, refl)
    every (ShapeWithoutChain t) holds of_chains = of_code (ShapeWithoutChain t) holds (3, omega arith, refl)
    every (ShapeSequence t) holds of_chains = of_code (ShapeSequence t) holds (2, omega arith, refl)
    every (ShapeGap t) holds of_chains = of_code (ShapeGap t) holds (1, omega arith, refl)
    every (DegenerateChain t) holds of_chains = of_code (DegenerateChain t) holds (0, omega arith, refl)
    every (ChainWithoutSides t) holds of_chains = absurd of_chains
    every (SidesWithoutChain t) holds of_chains = absurd of_chains
    every (DuplicateSides t) holds of_chains = absurd of_chains
    every (DuplicatePolygon k) holds of_chains = absurd of_chains
    every (SideWithoutPolygon t k) holds of_chains = absurd of_chains
    every (LinkWithoutLandmark n) holds of_chains = absurd of_chains
    every (LinkWithoutPolygon k n) holds of_chains = absurd of_chains
    every (TooMany Chains) holds of_chains = All-contains (Contains ordered) two (TooMany Chains) order.every (tells.every (TooMany Chains) (inl (record { is = refl; more = lt-ltb _ _ (counts.few holds) })))
    every (TooMany Segments) holds of_chains = All-contains (Contains ordered) two (TooMany Segments) order.every (tells.every (TooMany Segments) (inr (record { is = refl; more = lt-ltb _ _ (counts.segments_told.few holds) })))
    every (TooMany Polygons) holds of_chains = absurd of_chains
    every (TooMany Landmarks) holds of_chains = absurd of_chains

-- as many chains are kept as there are type 1 records
pub chains_long : (rs : List Record) → length (filter_map chain_at rs) ≡ chain_count rs
chains_long [] = refl
chains_long (r ∷ rs) = go r (chains_long rs)
  where
    go : (r : Record) → length (filter_map chain_at rs) ≡ chain_count rs → length (filter_map chain_at (r ∷ rs)) ≡ chain_count (r ∷ rs)
    go (Chain t from to) rest = omega (arith, rest, sum_by-cons (λ (x : Record). cond (is_any_chain x) 1 0) (Chain t from to) rs)
    go (Shape t n pairs) rest = omega (arith, rest, sum_by-cons (λ (x : Record). cond (is_any_chain x) 1 0) (Shape t n pairs) rs)
    go (Sides t s e l r) rest = omega (arith, rest, sum_by-cons (λ (x : Record). cond (is_any_chain x) 1 0) (Sides t s e l r) rs)
    go (PolyPoint k p) rest = omega (arith, rest, sum_by-cons (λ (x : Record). cond (is_any_chain x) 1 0) (PolyPoint k p) rs)
    go (Landmark k p) rest = omega (arith, rest, sum_by-cons (λ (x : Record). cond (is_any_chain x) 1 0) (Landmark k p) rs)
    go (AreaLink k m) rest = omega (arith, rest, sum_by-cons (λ (x : Record). cond (is_any_chain x) 1 0) (AreaLink k m) rs)

-- as many keys as there are type P records
pub keys_long : (rs : List Record) → length (keys (polygons_in rs)) ≡ length (polygons_in rs)
keys_long rs = length-map (polygons_in rs) (λ (p : Polygon). p.key)

-- the TLIDs of shapes in order don't fall
pub shape_order : (shapes : List ShapeSummary) → AreInOrder shapes → IsNonDecreasing (map (λ s. s.tlid) shapes)
shape_order shapes order i j d le lt =
    let tlid = λ (s : ShapeSummary). s.tlid in
    let within : j < length shapes = omega (arith, lt, length-map shapes tlid) in
    omega (arith, (order i j nothing le within).by_tlid, get_or-map tlid shapes i nothing d (omega arith), get_or-map tlid shapes j nothing d within)

-- chains and shapes in another order
pub chains_moved : (rs : List Record) (chains0 chains : List ChainEntry) (shapes0 shapes : List ShapeSummary) → HasChains rs chains0 shapes0 → IsPermutation chains0 chains → IsPermutation shapes0 shapes → HasChains rs chains shapes
chains_moved rs chains0 chains shapes0 shapes has a b = record {
  of_chains = IsPermutation-trans (filter_map chain_at rs) chains0 chains has.of_chains a;
  of_shapes = IsPermutation-trans (filter_map shape_at rs) shapes0 shapes has.of_shapes b;
}

-- the TLIDs of sides in another order
pub sides_often : (rs : List Record) (entries : List SidesEntry) (sides0 sides : List ℕ) → IsPermutation (sides_in rs) entries → sides0 ≡ map (λ s. s.tlid) entries → IsPermutation sides0 sides → StandAsOften (sides_with rs) sides
sides_often rs entries sides0 sides moved is sorted =
    let tlid = λ (s : SidesEntry). s.tlid in
    side_tlids rs (map tlid (sides_in rs)) sides refl (IsPermutation-trans (map tlid (sides_in rs)) (map tlid entries) sides (IsPermutation-map tlid (sides_in rs) entries moved) (rw is at sorted))

-- keys and LANDs, once they are sorted
pub kept_areas : (rs : List Record) (polygons0 polygons : List PolyKey) (names : List NamedSide) (landmarks0 landmarks : List ℕ) (links : List LinkEntry) (lands : List ℕ) → KeepsAreas rs polygons0 names landmarks0 links → IsPermutation polygons0 polygons → IsPermutation landmarks0 landmarks → IsPermutation (map (λ l. l.land) links) lands → AreAreas rs polygons names landmarks links lands
kept_areas rs polygons0 polygons names landmarks0 landmarks links lands keeps a b c = record {
  entries = keeps.entries;
  moved = keeps.moved;
  of_polygons = rw keeps.of_polygons at a;
  of_sides = keeps.of_sides;
  of_landmarks = rw keeps.of_landmarks at b;
  of_links = keeps.of_links;
  of_lands = rw keeps.of_links at c;
}

-- how many chains there are
pub counts_told : (rs : List Record) (chains : List ChainEntry) (shapes : List ShapeSummary) (count segments : ℕ) (faults : List RecordFault) → HasChains rs chains shapes → count ≡ length chains → AreSegmentsTold rs segments faults → AreCountsTold rs count segments faults
counts_told rs chains shapes count segments faults has long told =
    let same : count ≡ chain_count rs = omega (arith, long, length_permutation (filter_map chain_at rs) chains has.of_chains, chains_long rs) in
    record { segments_told = told; too_many = λ many. omega (arith, many, same); few = λ many. omega (arith, many, same) }

-- of chains that have no fault none is told
pub told_without_chains : (rs : List Record) → HaveNoChainFault rs → AreCountsTold rs 0 0 []
told_without_chains rs free = record {
  segments_told = record {
    told = record { each = λ k d lt. absurd (omega arith); every = λ f holds among. absurd (never f holds among) };
    of_chains = λ k d lt. absurd (omega arith);
    too_many = λ many. absurd (omega (arith, many));
    few = λ many. absurd (free.few_segments many);
  };
  too_many = λ many. absurd (omega (arith, many));
  few = λ many. absurd (free.few_chains many);
}
  where
    none : (n : ℕ) → 5 ≤ n → n ≤ 11 → ¬ Contains chain_codes n
    none n low high (zero, lt, at) = omega (arith, low, high, at)
    none n low high (suc zero, lt, at) = omega (arith, low, at)
    none n low high (suc (suc zero), lt, at) = omega (arith, low, at)
    none n low high (suc (suc (suc zero)), lt, at) = omega (arith, low, at)
    none n low high (suc (suc (suc (suc zero))), lt, at) = omega (arith, low, at)
    none n low high (suc (suc (suc (suc (suc k)))), lt, at) = omega arith

    thirteen : ¬ Contains chain_codes 13
    thirteen (zero, lt, at) = omega (arith, at)
    thirteen (suc zero, lt, at) = omega (arith, at)
    thirteen (suc (suc zero), lt, at) = omega (arith, at)
    thirteen (suc (suc (suc zero)), lt, at) = omega (arith, at)
    thirteen (suc (suc (suc (suc zero))), lt, at) = omega (arith, at)
    thirteen (suc (suc (suc (suc (suc k)))), lt, at) = omega arith

    never : (f : RecordFault) → IsTrueOf rs f → ¬ Contains chain_codes (fault_place f).0
    never (DuplicateChain t) holds among = free.once t holds
    never (ShapeWithoutChain t) holds among = free.no_stray t holds
    never (ShapeSequence t) holds among = free.in_sequence t holds
    never (ShapeGap t) holds among = free.no_gap t holds
    never (DegenerateChain t) holds among = free.not_degenerate t holds
    never (ChainWithoutSides t) holds among = none 5 (omega arith) (omega arith) among
    never (SidesWithoutChain t) holds among = none 6 (omega arith) (omega arith) among
    never (DuplicateSides t) holds among = none 7 (omega arith) (omega arith) among
    never (DuplicatePolygon k) holds among = none 8 (omega arith) (omega arith) among
    never (SideWithoutPolygon t k) holds among = none 9 (omega arith) (omega arith) among
    never (LinkWithoutLandmark n) holds among = none 10 (omega arith) (omega arith) among
    never (LinkWithoutPolygon k n) holds among = none 11 (omega arith) (omega arith) among
    never (TooMany what) holds among = thirteen among
