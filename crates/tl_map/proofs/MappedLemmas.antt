use Rattle.std.proofs.Common.{◌≡◌, ℕ, zero, suc, ◌+◌, ◌<◌, ◌≤◌, Bool, true, false, cond, eqb, ◌⊎◌, inl, inr, Option, List, [], ◌∷◌, length, drop, map, get_or, count_by, All, Contains, refl, ap, ◌∙◌, arith}
use Rattle.std.specs.Prelude.{Any}
use Rattle.std.specs.List.Sorted.{IsPermutation}
use Rattle.std.proofs.lemmas.Bool.{ne_eqb, eq-eqb, eqb-true, cases_lt}
use Rattle.std.proofs.lemmas.List.{get_or_default, length-map, get_or-map}
use Rattle.std.proofs.lemmas.List.Sums.{sum_by-cons}
use Rattle.std.proofs.lemmas.List.Sorted.{IsPermutation-map, IsPermutation-sym, Contains-permutation, All-permutation, sum_by-IsPermutation}
use Rattle.tl_record_key.specs.declared.key.PolyKey.{PolyKey}
use Rattle.tl_record.specs.declared.record.Record.{Record}
use Rattle.tl_map.specs.declared.areas.AreaRecords.{AreaRecords}
use Rattle.tl_map_rules.specs.declared.entry.SidesEntry.{SidesEntry}
use Rattle.tl_map_rules.specs.declared.entry.LandmarkEntry.{LandmarkEntry}
use Rattle.tl_map_rules.specs.declared.entry.LinkEntry.{LinkEntry}
use Rattle.tl_map_county.specs.declared.polygons.Polygon.{Polygon}
use Rattle.tl_map_county.specs.declared.sides.ChainSides.{ChainSides}
use Rattle.tl_map_county.specs.declared.landmarks.LinkedLandmarks.{LinkedLandmarks}
use Rattle.tl_map_rules.specs.declared.fault.Limited.TheVariants.{Chains, Segments, Polygons, Landmarks}
use Rattle.tl_map_rules.specs.declared.fault.RecordFault.TheVariants.{DuplicateChain, ShapeWithoutChain, ShapeSequence, ShapeGap, ChainWithoutSides, SidesWithoutChain, DuplicateSides, DuplicatePolygon, SideWithoutPolygon, LinkWithoutLandmark, LinkWithoutPolygon, DegenerateChain, TooMany}
use Rattle.tl_map_county.specs.Chains.{CompleteChain, ChainList, tlids}
use Rattle.tl_map_rules.specs.ChainsOf.{AreChainsOf}
use Rattle.tl_map_rules.specs.MapOf.{sides_in, polygons_in, landmarks_in, links_in, keys, without_sides, IsSided, firsts}
use Rattle.tl_map_rules.specs.Faults.{HasChain, HaveNoFault, StandsTwice}
use Rattle.tl_map_county.specs.Limits.{most_polygons, most_landmarks}
use Rattle.tl_map.specs.Keeping.Areas.{KeepsAreas}
use Rattle.tl_map.specs.Keeping.Built.{AreBuilt}
use Rattle.tl_map.specs.Keeping.Index.{Numbers}
use Rattle.tl_map.specs.Keeping.Sided.{sided_by, NamesKnown, sides_tlids, ArePaired, AreUnpaired, AreNamesUnknown}
use Rattle.tl_map_county.specs.Rows.{landmarks_in as rows_in, sided}
use Rattle.tl_map.specs.Keeping.Landmarks.{landmark_from, AreLinked, AreUnlinked}
use Rattle.tl_map.specs.Keeping.Mapped.{AreMapped, AreLinkedAreas}
use Rattle.tl_map_rules.proofs.CountLemmas.{none_counted, two_counted, rising_keys}
use Rattle.tl_map_rules.proofs.ListingLemmas.CountedLemmas.{counted_stands, stands_counted}
use Rattle.tl_map_rules.proofs.OneMapLemmas.{same_rising}
use Rattle.tl_map_rules.proofs.KnownLemmas.{far, chain_known}
use Rattle.tl_map_county.proofs.RowLemmas.{length-landmarks_in}

chain_there : (rs : List Record) (chains : List CompleteChain) (t : ℕ) → AreChainsOf rs chains → HasChain rs t → Contains (tlids chains) t
chain_there rs chains t are has = are.complete t has.0 has.1 has.2

-- the chains of records are those with the records' sides
sided_all : (rs : List Record) (cs : List CompleteChain) (ss : List SidesEntry) → sides_tlids ss ≡ tlids cs → ((k : ℕ) (d : SidesEntry) → k < length ss → Contains (sides_in rs) (get_or ss k d)) → All (IsSided rs) (sided cs (map (sided_by (keys (polygons_in rs))) ss)) × (map without_sides (sided cs (map (sided_by (keys (polygons_in rs))) ss)) ≡ cs) × (length ss ≡ length cs)
sided_all rs [] [] same has = ((λ k d lt. absurd (omega arith)), refl, refl)
sided_all rs [] (s ∷ ss) same has = absurd (let h = ap length same in omega (arith, h))
sided_all rs (c ∷ cs) [] same has = absurd (let h = ap length same in omega (arith, h))
sided_all rs (c ∷ cs) (s ∷ ss) same has =
    let head : s.tlid ≡ c.tlid = ap (λ (ts : List ℕ). get_or ts 0 0) same in
    let tail : sides_tlids ss ≡ tlids cs = ap (λ (ts : List ℕ). drop 1 ts) same in
    let rest = sided_all rs cs ss tail (λ k d lt. has (suc k) d (omega arith)) in
    (all head (has 0 s (omega arith)) rest.0, (λ i. c ∷ rest.1 i), ap suc rest.2)
  where
    all : s.tlid ≡ c.tlid → Contains (sides_in rs) s → All (IsSided rs) (sided cs (map (sided_by (keys (polygons_in rs))) ss)) → All (IsSided rs) (sided (c ∷ cs) (map (sided_by (keys (polygons_in rs))) (s ∷ ss)))
    all head found rest zero d lt = record { sides = s; record_of_it = found; tlid = head; left = refl; right = refl; start_cell = refl; end_cell = refl }
    all head found rest (suc k) d lt = rest k d (omega arith)

-- a TLID stands once in sides that rise
once : (ss : List SidesEntry) (t : ℕ) → ((i j : ℕ) → i < j → j < length ss → get_or (sides_tlids ss) i 0 < get_or (sides_tlids ss) j 0) → count_by (λ (s : SidesEntry). eqb s.tlid t) ss ≤ 1
once [] t rising = omega arith
once (s ∷ ss) t rising = go (eqb s.tlid t) refl (once ss t (λ i j before within. rising (suc i) (suc j) (omega arith) (omega arith)))
  where
    more : count_by (λ (x : SidesEntry). eqb x.tlid t) (s ∷ ss) ≡ cond (eqb s.tlid t) 1 0 + count_by (λ (x : SidesEntry). eqb x.tlid t) ss
    more = sum_by-cons (λ (x : SidesEntry). cond (eqb x.tlid t) 1 0) s ss

    go : (b : Bool) → eqb s.tlid t ≡ b → count_by (λ (x : SidesEntry). eqb x.tlid t) ss ≤ 1 → count_by (λ (x : SidesEntry). eqb x.tlid t) (s ∷ ss) ≤ 1
    go true e later =
        let here : count_by (λ (x : SidesEntry). eqb x.tlid t) (s ∷ ss) ≡ 1 + count_by (λ (x : SidesEntry). eqb x.tlid t) ss = more ∙ ap (λ (b : Bool). cond {A = ℕ} b 1 0 + count_by (λ (x : SidesEntry). eqb x.tlid t) ss) e in
        let same = eqb-true s.tlid t e in
        let none : count_by (λ (x : SidesEntry). eqb x.tlid t) ss ≡ 0 = none_counted (λ (x : SidesEntry). eqb x.tlid t) ss (λ k d h. ne_eqb _ _ (λ at. omega (arith, rising 0 (suc k) (omega arith) (omega arith), same, at, get_or-map (λ (x : SidesEntry). x.tlid) ss k d 0 h))) in
        omega (arith, here, none)
    go false e later =
        let rest : count_by (λ (x : SidesEntry). eqb x.tlid t) (s ∷ ss) ≡ 0 + count_by (λ (x : SidesEntry). eqb x.tlid t) ss = more ∙ ap (λ (b : Bool). cond {A = ℕ} b 1 0 + count_by (λ (x : SidesEntry). eqb x.tlid t) ss) e in
        omega (arith, rest, later)

-- the records of a map have no fault
no_fault : (rs : List Record) (skipped : ℕ) (chains : ChainList) (new : List SidesEntry) (found : PolyKey → Option ℕ) (l : LinkedLandmarks) → AreBuilt rs skipped chains → ArePaired (tlids chains.chains) (sides_in rs) new → Numbers (keys (polygons_in rs)) found → All (NamesKnown (keys (polygons_in rs))) new → length (polygons_in rs) ≤ most_polygons → AreLinked (keys (polygons_in rs)) (landmarks_in rs) (links_in rs) l → HaveNoFault rs
no_fault rs skipped chains new found l built paired numbers known few linked (DuplicateChain t) = built.no_fault.once t
no_fault rs skipped chains new found l built paired numbers known few linked (ShapeWithoutChain t) = built.no_fault.no_stray t
no_fault rs skipped chains new found l built paired numbers known few linked (ShapeSequence t) = built.no_fault.in_sequence t
no_fault rs skipped chains new found l built paired numbers known few linked (ShapeGap t) = built.no_fault.no_gap t
no_fault rs skipped chains new found l built paired numbers known few linked (DegenerateChain t) = built.no_fault.not_degenerate t
no_fault rs skipped chains new found l built paired numbers known few linked (TooMany Chains) = built.no_fault.few_chains
no_fault rs skipped chains new found l built paired numbers known few linked (TooMany Segments) = built.no_fault.few_segments
no_fault rs skipped chains new found l built paired numbers known few linked (TooMany Polygons) = λ many. omega (arith, many, few)
no_fault rs skipped chains new found l built paired numbers known few linked (TooMany Landmarks) = λ many. omega (arith, many, linked.few)
no_fault rs skipped chains new found l built paired numbers known few linked (ChainWithoutSides t) = λ fault.
    let there = IsPermutation-map (λ (s : SidesEntry). s.tlid) (sides_in rs) new paired.moved in
    let has = chain_there rs chains.chains t built.chains fault.0 in
    fault.1 (Contains-permutation (sides_tlids new) (sides_tlids (sides_in rs)) t (IsPermutation-sym (sides_tlids (sides_in rs)) (sides_tlids new) there) (rw paired.same has))
no_fault rs skipped chains new found l built paired numbers known few linked (SidesWithoutChain t) = λ fault.
    let there = IsPermutation-map (λ (s : SidesEntry). s.tlid) (sides_in rs) new paired.moved in
    let has : Contains (sides_tlids new) t = Contains-permutation (sides_tlids (sides_in rs)) (sides_tlids new) t there fault.0 in
    fault.1 (chain_known rs chains.chains t built.chains (rw paired.same at has))
no_fault rs skipped chains new found l built paired numbers known few linked (DuplicateSides t) = λ fault.
    let rising = far (tlids chains.chains) built.chains.rising in
    let one = once new t (λ i j before within. rw paired.same (rising i j before (let h = ap length paired.same in let k = length-map new (λ (s : SidesEntry). s.tlid) in omega (arith, h, k, within)))) in
    let same = sum_by-IsPermutation (λ (s : SidesEntry). cond (eqb s.tlid t) 1 0) (sides_in rs) new paired.moved in
    omega (arith, fault, one, same)
no_fault rs skipped chains new found l built paired numbers known few linked (DuplicatePolygon k) = λ fault.
    let one = numbers.each fault.0 k fault.3 in
    let two = numbers.each fault.1 k fault.4 in
    let same : fault.0 ≡ fault.1 = cc in
    omega (arith, fault.2, same)
no_fault rs skipped chains new found l built paired numbers known few linked (SideWithoutPolygon t k) = λ fault.
    let all = All-permutation (NamesKnown (keys (polygons_in rs))) new (sides_in rs) (IsPermutation-sym (sides_in rs) new paired.moved) known in
    let any = fault.0 in
    fault.1 (all any.0 any.1 any.2 k (rw any.3 any.4.1))
no_fault rs skipped chains new found l built paired numbers known few linked (LinkWithoutLandmark n) = λ fault.
    let any = fault.0 in
    let has = linked.known any.0 any.1 any.2 in
    fault.1 (let same : (get_or (links_in rs) any.0 any.1).land ≡ n = ap (λ (x : LinkEntry). x.land) any.3 ∙ any.4 in rw same at has.0)
no_fault rs skipped chains new found l built paired numbers known few linked (LinkWithoutPolygon k n) = λ fault.
    let any = fault.0 in
    let has = linked.known any.0 any.1 any.2 in
    fault.1 (let same : (get_or (links_in rs) any.0 any.1).key ≡ k = ap (λ (x : LinkEntry). x.key) any.3 ∙ any.4.0 in rw same at has.1)

-- a number is one of these, or it is not
among_or_not : (xs : List ℕ) (x : ℕ) → Contains xs x ⊎ (¬ Contains xs x)
among_or_not xs x = elim (cases_lt 0 (count_by (λ (y : ℕ). eqb y x) xs)) [
  | inl some ↦ inl (counted_stands eqb eqb-true xs x some)
  | inr none ↦ inr (λ has. omega (arith, none, stands_counted eqb (λ y. eq-eqb y y refl) xs x has))
]

-- records of sides that aren't those of the chains are faulty
pub unpaired : (rs : List Record) (skipped : ℕ) (chains : ChainList) (sides new : List SidesEntry) → AreBuilt rs skipped chains → sides ≡ sides_in rs → IsPermutation sides new → AreUnpaired (tlids chains.chains) new → ¬ HaveNoFault rs
unpaired rs skipped chains sides new built is moved off none =
    let tlid = λ (s : SidesEntry). s.tlid in
    let ts = tlids chains.chains in
    let all = sides_tlids (sides_in rs) in
    let moved_in : IsPermutation (sides_in rs) new = rw is at moved in
    let there : IsPermutation all (sides_tlids new) = IsPermutation-map tlid (sides_in rs) new moved_in in
    let back = IsPermutation-sym all (sides_tlids new) there in
    let rising = rising_keys tlid new (λ k d h. elim (cases_lt (get_or new k d).tlid (get_or new (k + 1) d).tlid) [
      | inl before ↦ before
      | inr not_before ↦ absurd (
          let t = (get_or new (k + 1) d).tlid in
          let same : (get_or new k d).tlid ≡ t = omega (arith, not_before, off.ordered k (k + 1) d (omega arith) h) in
          let two = two_counted (λ (s : SidesEntry). eqb s.tlid t) new k d h (eq-eqb _ _ same) (eq-eqb t t refl) in
          none (DuplicateSides t) (omega (arith, two, sum_by-IsPermutation (λ (s : SidesEntry). cond (eqb s.tlid t) 1 0) (sides_in rs) new moved_in)))
    ]) in
    off.others (same_rising (sides_tlids new) ts (far (sides_tlids new) rising) (far ts built.chains.rising)
    (λ t has. elim (among_or_not ts t) [
      | inl known ↦ known
      | inr unknown ↦ absurd (none (SidesWithoutChain t) (Contains-permutation (sides_tlids new) all t back has, λ chain. unknown (chain_there rs chains.chains t built.chains chain)))
    ])
    (λ t has. elim (among_or_not (sides_tlids new) t) [
      | inl known ↦ known
      | inr unknown ↦ absurd (none (ChainWithoutSides t) (chain_known rs chains.chains t built.chains has, λ sides. unknown (Contains-permutation all (sides_tlids new) t there sides)))
    ]))

-- and so are those in which a key stands twice
pub twice : (rs : List Record) (polygons : List Polygon) → polygons ≡ polygons_in rs → (k : PolyKey) × StandsTwice (keys polygons) k → ¬ HaveNoFault rs
twice rs polygons is why none = none (DuplicatePolygon why.0) (rw is at why.1)

-- those in which a side names a key that no polygon has
pub unknown_names : (rs : List Record) (polygons : List Polygon) (ts : List ℕ) (old new : List SidesEntry) → polygons ≡ polygons_in rs → old ≡ sides_in rs → ArePaired ts old new → AreNamesUnknown (keys polygons) new → ¬ HaveNoFault rs
unknown_names rs polygons ts old new is same paired why none =
    let any = why.1 in
    let found : Contains old any.1 = Contains-permutation new old any.1 (IsPermutation-sym old new paired.moved) (any.0, any.2, any.3) in
    let there : Contains (sides_in rs) any.1 = rw same at found in
    none (SideWithoutPolygon any.1.tlid why.0) ((there.0, any.1, there.1, there.2, (refl, any.4)), λ has. why.2 (rw is has))

-- and those whose landmarks aren't linked
pub unlinked : (rs : List Record) (polygons : List Polygon) (entries : List LandmarkEntry) (links : List LinkEntry) → polygons ≡ polygons_in rs → entries ≡ landmarks_in rs → links ≡ links_in rs → AreUnlinked (keys polygons) entries links → ¬ HaveNoFault rs
unlinked rs polygons entries links p e l why none = elim why [
  | inl many ↦ none (TooMany Landmarks) (rw e at many)
  | inr any ↦ elim any.4 [
    | inl landmark ↦ let one : Any (λ (x : LinkEntry). x.land ≡ any.1.land) links = (any.0, any.1, any.2, any.3, refl) in none (LinkWithoutLandmark any.1.land) (rw l at one, λ has. landmark (rw e has))
    | inr polygon ↦ let one : Any (λ (x : LinkEntry). (x.key ≡ any.1.key) × (x.land ≡ any.1.land)) links = (any.0, any.1, any.2, any.3, (refl, refl)) in none (LinkWithoutPolygon any.1.key any.1.land) (rw l at one, λ has. polygon (rw p has))
  ]
]

-- the map is that of the records
pub mapped_all : (rs : List Record) (skipped : ℕ) (chains : ChainList) (areas : AreaRecords) (new : List SidesEntry) (sides : List ChainSides) (found : PolyKey → Option ℕ) (l : LinkedLandmarks) → AreBuilt rs skipped chains → KeepsAreas rs areas → ArePaired (tlids chains.chains) areas.sides new → Numbers (keys areas.polygons.items) found → All (NamesKnown (keys areas.polygons.items)) new → sides ≡ map (sided_by (keys areas.polygons.items)) new → length areas.polygons.items ≤ most_polygons → AreLinked (keys areas.polygons.items) areas.landmarks.items areas.links.items l → AreMapped rs skipped (record { chains = sided chains.chains sides; polygons = areas.polygons.items; landmarks = rows_in l.linked.items l.points.items l.rows.items; skipped = chains.skipped })
mapped_all rs skipped chains areas new sides found l built keeps paired numbers known are few linked =
    let paired_in : ArePaired (tlids chains.chains) (sides_in rs) new = rw keeps.sides at paired in
    let numbers_in : Numbers (keys (polygons_in rs)) found = rw keeps.polygons at numbers in
    let known_in : All (NamesKnown (keys (polygons_in rs))) new = rw keeps.polygons at known in
    let few_in : length (polygons_in rs) ≤ most_polygons = rw keeps.polygons at few in
    let linked_in : AreLinked (keys (polygons_in rs)) (landmarks_in rs) (links_in rs) l = rw (keeps.polygons, keeps.landmarks, keeps.links) at linked in
    let sides_are : sides ≡ map (sided_by (keys (polygons_in rs))) new = are ∙ ap (λ (ps : List Polygon). map (sided_by (keys ps)) new) keeps.polygons in
    let has = All-permutation (λ (s : SidesEntry). Contains (sides_in rs) s) (sides_in rs) new paired_in.moved (λ k d lt. (k, lt, get_or_default (sides_in rs) k _ d lt)) in
    let all = sided_all rs chains.chains new paired_in.same has in
    record {
      map = record {
        chains = rw (sides_are, all.1) built.chains;
        sides = rw sides_are all.0;
        polygons = keeps.polygons;
        landmarks = linked_in.are;
      };
      skipped_lines = built.skipped_lines;
      no_fault = no_fault rs skipped chains new found l built paired_in numbers_in known_in few_in linked_in;
    }

-- the map of chains and of what is linked is that of the records
pub linked_all : (rs : List Record) (skipped : ℕ) (chains : ChainList) (areas : AreaRecords) (sides : List ChainSides) (l : LinkedLandmarks) → AreBuilt rs skipped chains → KeepsAreas rs areas → length areas.polygons.items ≤ most_polygons → AreLinkedAreas chains areas sides l → AreMapped rs skipped (record { chains = sided chains.chains sides; polygons = areas.polygons.items; landmarks = rows_in l.linked.items l.points.items l.rows.items; skipped = chains.skipped })
linked_all rs skipped chains areas sides l built keeps few made =
    mapped_all rs skipped chains areas made.paired sides made.found l built keeps made.pairs made.numbers made.known made.resolved few made.linked

-- as many sides as chains, and no more landmarks than the limit
pub as_many : (rs : List Record) (skipped : ℕ) (chains : ChainList) (old new : List SidesEntry) (sides : List ChainSides) (ks : List PolyKey) → AreBuilt rs skipped chains → ArePaired (tlids chains.chains) old new → sides ≡ map (sided_by ks) new → length sides ≡ length chains.chains
as_many rs skipped chains old new sides ks built paired are =
    omega (arith, ap length are, length-map new (sided_by ks), ap length paired.same, length-map new (λ (s : SidesEntry). s.tlid), length-map chains.chains (λ (c : CompleteChain). c.tlid))

-- no more landmarks than the limit
pub few_rows : (ks : List PolyKey) (entries : List LandmarkEntry) (links : List LinkEntry) (l : LinkedLandmarks) → AreLinked ks entries links l → length l.points.items ≤ most_landmarks
few_rows ks entries links l linked =
    omega (arith, ap length linked.are, length-landmarks_in l.linked.items l.points.items l.rows.items linked.beside, length-map (firsts (λ (e : LandmarkEntry). e.land) entries) (landmark_from ks links), linked.few)
