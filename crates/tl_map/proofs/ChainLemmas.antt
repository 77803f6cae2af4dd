use Rattle.std.proofs.Common.{◌≡◌, ◌≢◌, ℕ, zero, suc, ◌+◌, ◌-◌, ◌<◌, ◌≤◌, Bool, true, false, cond, eqb, ◌⊎◌, inl, inr, List, [], ◌∷◌, ◌++◌, length, take, map, get_or, filter, sum_by, count_by, All, Contains, refl, sym, ap, ◌∙◌, arith, add-one}
use Rattle.std.specs.Prelude.{Any, Result, Ok, Err, MatchResult}
use Rattle.std.specs.List.{dedup, flat_map}
use Rattle.std.proofs.lemmas.Bool.{cases_Bool, eq-eqb, ne_eqb, eqb-true, false≢true}
use Rattle.std.proofs.lemmas.List.{append-nil, take_all, length-map, get_or-map, get_or_default}
use Rattle.std.proofs.lemmas.List.Elements.{filter_more, All-map}
use Rattle.std.proofs.lemmas.List.Concat.{flat_map-append}
use Rattle.std.proofs.lemmas.List.Sums.{sum_by-cons, count_by_more_no}
use Rattle.tl_geom.specs.declared.point.Point.{Point}
use Rattle.tl_record.specs.declared.record.Record.{Record}
use Rattle.tl_record.specs.declared.record.Record.TheVariants.{Chain, Shape}
use Rattle.tl_map_rules.specs.declared.entry.ChainEntry.{ChainEntry}
use Rattle.tl_map_rules.specs.declared.entry.ShapeEntry.{ShapeEntry}
use Rattle.tl_map_county.specs.declared.limits.TheConstants.{CHAIN_LIMIT, SEGMENT_LIMIT}
use Rattle.tl_map.specs.declared.unbuilt.Unbuilt.{Unbuilt}
use Rattle.tl_map_rules.specs.ChainsOf.{is_chain, shape_count, pairs_up_to, pairs_of, used, points_between, segments_by, segments_of, IsDrawn, AreChainsOf}
use Rattle.tl_record.specs.Joining.{same_point}
use Rattle.tl_map_county.specs.Chains.{CompleteChain, ChainList, tlids, segment_count, IsProperChain}
use Rattle.tl_map_rules.specs.Faults.{IsStray, IsDegenerate, AreJoined, HaveNoChainFault}
use Rattle.tl_map_rules.specs.Listing.Shapes.{entry_points}
use Rattle.tl_map.specs.Keeping.Entries.{by_chain, AreChainEntries, AreShapeEntries, chains_with, AreEntriesRising, has_tlid, shapes_with, ArePlaced, joined}
use Rattle.tl_map.specs.Keeping.Rows.{AreJoinedBy, AreUnjoinable}
use Rattle.tl_map.specs.Keeping.Built.{AreSound, AreBuilt}
use Rattle.tl_map.specs.Keeping.Unbuilt.{StopsFor}
use Rattle.tl_map.proofs.UnbuiltLemmas.{stops_for}
use Rattle.tl_map_rules.proofs.CountLemmas.{none_counted, one_counted, two_counted, sum_by-same, rising_keys_from_pairs}
use Rattle.tl_map.proofs.SequenceLemmas.{numbered_from_placed}
use Rattle.tl_map.proofs.GapLemmas.{shapes_with_is, AreShapesNumbered-from_entries, pairs_more}
use Rattle.tl_map.proofs.CollectLemmas.{chain_count_is}
use Rattle.tl_map.proofs.ProperLemmas.{proper_dedup}
use Rattle.tl_map_rules.proofs.PairLemmas.{used-append}

-- the used points of a TLID, with one entry more
used_more : (rs : List Record) (pool : List Point) (entries : List ShapeEntry) (d : ShapeEntry) (t i : ℕ) → AreShapeEntries rs pool entries → ArePlaced entries → i < length entries → used (pairs_up_to rs t (shapes_with t (take i entries))) ≡ flat_map (entry_points pool) (filter (has_tlid t) (take i entries)) → used (pairs_up_to rs t (shapes_with t (take (i + 1) entries))) ≡ flat_map (entry_points pool) (filter (has_tlid t) (take (i + 1) entries))
used_more rs pool entries d t i h placed lt before = step (cases_Bool (has_tlid t (get_or entries i d)))
  where
    kept : (b : Bool) → has_tlid t (get_or entries i d) ≡ b → filter (has_tlid t) (take (i + 1) entries) ≡ filter (has_tlid t) (take i entries) ++ cond b (get_or entries i d ∷ []) []
    kept b e = filter_more (has_tlid t) entries i d lt ∙ ap (λ b. filter (has_tlid t) (take i entries) ++ cond b (get_or entries i d ∷ []) []) e

    step : (has_tlid t (get_or entries i d) ≡ true) ⊎ (has_tlid t (get_or entries i d) ≡ false) → used (pairs_up_to rs t (shapes_with t (take (i + 1) entries))) ≡ flat_map (entry_points pool) (filter (has_tlid t) (take (i + 1) entries))
    step (inl is) =
        let entry = h.each i d lt in
        let same : t ≡ (get_or entries i d).tlid = sym (eqb-true (get_or entries i d).tlid t is) in
        ap used (pairs_more rs pool entries d i t h placed lt same entry)
        ∙ used-append (pairs_up_to rs t (shapes_with t (take i entries))) entry.pairs
        ∙ ap (λ ps. ps ++ used entry.pairs) before
        ∙ ap (λ ps. flat_map (entry_points pool) (filter (has_tlid t) (take i entries)) ++ ps) (sym (append-nil (entry_points pool (get_or entries i d)) ∙ entry.points))
        ∙ sym (ap (flat_map (entry_points pool)) (kept true is) ∙ flat_map-append (entry_points pool) (filter (has_tlid t) (take i entries)) (get_or entries i d ∷ []))
    step (inr other) =
        ap (λ n. used (pairs_up_to rs t n)) (count_by_more_no (has_tlid t) entries i d lt other)
        ∙ before
        ∙ sym (ap (flat_map (entry_points pool)) (kept false other ∙ append-nil (filter (has_tlid t) (take i entries))))

-- the used points of a TLID, as far as the first i entries have them
used_upto : (rs : List Record) (pool : List Point) (entries : List ShapeEntry) (d : ShapeEntry) (t i : ℕ) → AreShapeEntries rs pool entries → ArePlaced entries → i ≤ length entries → used (pairs_up_to rs t (shapes_with t (take i entries))) ≡ flat_map (entry_points pool) (filter (has_tlid t) (take i entries))
used_upto rs pool entries d t zero h placed le = refl
used_upto rs pool entries d t (suc i) h placed le =
    rw (add-one i) at (used_more rs pool entries d t i h placed (omega arith) (used_upto rs pool entries d t i h placed (omega arith)))

-- the used points of a TLID are those of its entries
pub used_is : (rs : List Record) (pool : List Point) (entries : List ShapeEntry) (t : ℕ) → AreShapeEntries rs pool entries → ArePlaced entries → used (pairs_of rs t) ≡ flat_map (entry_points pool) (filter (has_tlid t) entries)
used_is rs pool entries t h placed = go entries refl
  where
    go : (es : List ShapeEntry) → es ≡ entries → used (pairs_of rs t) ≡ flat_map (entry_points pool) (filter (has_tlid t) entries)
    go [] e = let none : shape_count rs t ≡ 0 = sym (shapes_with_is rs pool entries h t) ∙ ap (shapes_with t) (sym e) in
        ap (λ n. used (pairs_up_to rs t n)) none ∙ ap (λ es. flat_map (entry_points pool) (filter (has_tlid t) es)) e
    go (x ∷ es) e =
        let whole = take_all (length entries) entries (omega arith) in
        ap (λ n. used (pairs_up_to rs t n)) (sym (ap (shapes_with t) whole ∙ shapes_with_is rs pool entries h t))
        ∙ used_upto rs pool entries x t (length entries) h placed (omega arith)
        ∙ ap (λ es. flat_map (entry_points pool) (filter (has_tlid t) es)) whole

-- a joined chain has the points of the records
pub joined_is : (rs : List Record) (pool : List Point) (entries : List ShapeEntry) (c : ChainEntry) → AreShapeEntries rs pool entries → ArePlaced entries → (joined pool entries c).points ≡ points_between c.from (pairs_of rs c.tlid) c.to
joined_is rs pool entries c h placed = ap (λ ps. dedup same_point (c.from ∷ (ps ++ c.to ∷ []))) (sym (used_is rs pool entries c.tlid h placed))

-- the counts of chain entries are those of the records
pub chains_with_is : (rs : List Record) (entries : List ChainEntry) → AreChainEntries rs entries → (t : ℕ) → chains_with t entries ≡ count_by (is_chain t) rs
chains_with_is rs entries h t = h.sums (λ u from to. cond (eqb u t) 1 0) ∙ sum_by-same _ _ same rs
  where
    same : (r : Record) → by_chain (λ u from to. cond (eqb u t) 1 0) r ≡ cond (is_chain t r) 1 0
    same (Chain u from to) = refl
    same (Shape u k pairs) = refl
    same other = refl

-- neighbours that have one TLID
pub neighbours_counted : (chains : List ChainEntry) (i : ℕ) (d e : ChainEntry) → 1 ≤ i → i < length chains → (get_or chains (i - 1) d).tlid ≡ (get_or chains i e).tlid → (t : ℕ) × (2 ≤ chains_with t chains)
neighbours_counted chains i d e some lt same =
    let at : i - 1 + 1 ≡ i = omega arith in
    let t : ℕ = (get_or chains i e).tlid in
    let second : (get_or chains (i - 1 + 1) d).tlid ≡ t = rw (at, get_or_default chains i d e lt) refl in
    (t, two_counted (λ (c : ChainEntry). eqb c.tlid t) chains (i - 1) d (omega arith) (eq-eqb _ _ same) (eq-eqb _ _ second))

-- each joined chain is drawn by a record
drawn : (rs : List Record) (pool : List Point) (chains : List ChainEntry) (shapes : List ShapeEntry) → AreChainEntries rs chains → AreShapeEntries rs pool shapes → ArePlaced shapes → All (IsDrawn rs) (map (joined pool shapes) chains)
drawn rs pool chains shapes are have placed =
    All-map (IsDrawn rs) (joined pool shapes) chains (λ k d h. record {
      from = (get_or chains k d).from;
      to = (get_or chains k d).to;
      record_of_it = are.each k d h;
      points = joined_is rs pool shapes (get_or chains k d) have placed;
    })

-- a record's chain is counted
counted_chain : (rs : List Record) (t : ℕ) (from to : Point) → Contains rs (Chain t from to) → 1 ≤ count_by (is_chain t) rs
counted_chain rs t from to found = omega (arith, one_counted (is_chain t) rs found.0 (Chain t from to) found.1 (rw found.2 (eq-eqb t t refl)))

-- a TLID that is counted is one of those of the chains
found_tlid : (pool : List Point) (shapes : List ShapeEntry) (chains : List ChainEntry) (t : ℕ) → 1 ≤ chains_with t chains → Contains (tlids (map (joined pool shapes) chains)) t
found_tlid pool shapes [] t h = absurd (omega arith)
found_tlid pool shapes (c ∷ chains) t h = go (eqb c.tlid t) refl (λ later. found_tlid pool shapes chains t later)
  where
    more : chains_with t (c ∷ chains) ≡ cond (eqb c.tlid t) 1 0 + chains_with t chains
    more = sum_by-cons (λ (x : ChainEntry). cond (eqb x.tlid t) 1 0) c chains

    go : (b : Bool) → eqb c.tlid t ≡ b → (1 ≤ chains_with t chains → Contains (tlids (map (joined pool shapes) chains)) t) → Contains (tlids (map (joined pool shapes) (c ∷ chains))) t
    go true e later = (0, omega arith, eqb-true c.tlid t e)
    go false e later =
        let rest : chains_with t (c ∷ chains) ≡ 0 + chains_with t chains = more ∙ ap (λ (b : Bool). cond {A = ℕ} b 1 0 + chains_with t chains) e in
        let found = later (omega (arith, rest, h)) in
        (suc found.0, omega (arith, found.1), found.2)

-- a sum over images
sum_by-map : {X Y : Type 0} (f : Y → ℕ) (g : X → Y) (xs : List X) → sum_by f (map g xs) ≡ sum_by (λ x. f (g x)) xs
sum_by-map f g [] = refl
sum_by-map f g (x ∷ xs) = omega (arith, sum_by-map f g xs, sum_by-cons f (g x) (map g xs), sum_by-cons (λ x. f (g x)) x xs)

-- as many segments as the records' chains have
segments_are : (rs : List Record) (pool : List Point) (chains : List ChainEntry) (shapes : List ShapeEntry) → AreChainEntries rs chains → AreShapeEntries rs pool shapes → ArePlaced shapes → segment_count (map (joined pool shapes) chains) ≡ segments_of rs
segments_are rs pool chains shapes are have placed =
    sum_by-map (λ c. length c.points - 1) (joined pool shapes) chains
    ∙ sum_by-same _ _ (λ (c : ChainEntry). ap (λ ps. length ps - 1) (joined_is rs pool shapes c have placed)) chains
    ∙ are.sums (λ t from to. length (points_between from (pairs_of rs t) to) - 1)
    ∙ sum_by-same _ _ same rs
  where
    same : (r : Record) → by_chain (λ t from to. length (points_between from (pairs_of rs t) to) - 1) r ≡ segments_by rs r
    same (Chain u from to) = refl
    same (Shape u k pairs) = refl
    same other = refl

-- the TLIDs of joined chains
tlids_joined : (pool : List Point) (shapes : List ShapeEntry) (chains : List ChainEntry) → tlids (map (joined pool shapes) chains) ≡ map (λ c. c.tlid) chains
tlids_joined pool shapes [] = refl
tlids_joined pool shapes (c ∷ chains) = ap (λ ts. c.tlid ∷ ts) (tlids_joined pool shapes chains)

-- the joined chains are those of the records
pub AreChainsOf-joined : (rs : List Record) (pool : List Point) (chains : List ChainEntry) (shapes : List ShapeEntry) → AreChainEntries rs chains → AreShapeEntries rs pool shapes → AreSound rs chains shapes → AreChainsOf rs (map (joined pool shapes) chains)
AreChainsOf-joined rs pool chains shapes are have sound = record {
  rising = rw (tlids_joined pool shapes chains) (rising_keys_from_pairs (λ (c : ChainEntry). c.tlid) chains sound.rising);
  drawn = drawn rs pool chains shapes are have sound.placed;
  complete = λ t from to found. found_tlid pool shapes chains t (omega (arith, counted_chain rs t from to found, chains_with_is rs chains are t));
  segments = segments_are rs pool chains shapes are have sound.placed;
}

-- a TLID stands once in chains that rise
rising_once : (chains : List ChainEntry) (t : ℕ) → AreEntriesRising chains → chains_with t chains ≤ 1
rising_once [] t rising = omega arith
rising_once (c ∷ chains) t rising = go (eqb c.tlid t) refl (rising_once chains t (λ i j d before within. rising (suc i) (suc j) d (omega arith) (omega arith)))
  where
    more : chains_with t (c ∷ chains) ≡ cond (eqb c.tlid t) 1 0 + chains_with t chains
    more = sum_by-cons (λ (x : ChainEntry). cond (eqb x.tlid t) 1 0) c chains

    go : (b : Bool) → eqb c.tlid t ≡ b → chains_with t chains ≤ 1 → chains_with t (c ∷ chains) ≤ 1
    go true e later =
        let here : chains_with t (c ∷ chains) ≡ 1 + chains_with t chains = more ∙ ap (λ (b : Bool). cond {A = ℕ} b 1 0 + chains_with t chains) e in
        let same = eqb-true c.tlid t e in
        let none : chains_with t chains ≡ 0 = none_counted (λ (x : ChainEntry). eqb x.tlid t) chains (λ k d h. ne_eqb _ _ (λ at. omega (arith, rising 0 (suc k) d (omega arith) (omega arith), same, at))) in
        omega (arith, here, none)
    go false e later =
        let rest : chains_with t (c ∷ chains) ≡ 0 + chains_with t chains = more ∙ ap (λ (b : Bool). cond {A = ℕ} b 1 0 + chains_with t chains) e in
        omega (arith, rest, later)

-- no type 2 record is without a chain
no_stray : (rs : List Record) (pool : List Point) (chains : List ChainEntry) (shapes : List ShapeEntry) → AreChainEntries rs chains → AreShapeEntries rs pool shapes → All (λ s. 1 ≤ chains_with s.tlid chains) shapes → (t : ℕ) → ¬ IsStray rs t
no_stray rs pool chains shapes are have known t stray =
    let none : shapes_with t shapes ≡ 0 = none_counted (has_tlid t) shapes (λ k d h. ne_eqb _ _ (λ same. let one = known k d h in omega (arith, rw same at one, chains_with_is rs chains are t, stray.1))) in
    omega (arith, none, shapes_with_is rs pool shapes have t, stray.0)

-- what stands before the chains are joined
are_joined : (rs : List Record) (pool : List Point) (chains : List ChainEntry) (shapes : List ShapeEntry) → AreChainEntries rs chains → AreShapeEntries rs pool shapes → AreSound rs chains shapes → AreJoined rs
are_joined rs pool chains shapes are have sound = record {
  once = λ t two. omega (arith, two, rising_once chains t sound.rising, chains_with_is rs chains are t);
  no_stray = no_stray rs pool chains shapes are have sound.known;
  numbered = λ t. AreShapesNumbered-from_entries rs pool shapes have t (numbered_from_placed shapes sound.placed t);
  no_gap = λ t broken. false≢true (sym (sound.no_gap t) ∙ broken.gap);
}

-- is this a type 1 record of a chain of one point
abbrev is_one_point : List Record → Record → Bool
is_one_point rs (Chain t from to) = eqb (length (points_between from (pairs_of rs t) to)) 1
is_one_point rs other = false

-- no chain is one point where no joined chain is
not_degenerate : (rs : List Record) (pool : List Point) (chains : List ChainEntry) (shapes : List ShapeEntry) → AreChainEntries rs chains → AreShapeEntries rs pool shapes → ArePlaced shapes → All (λ c. length (joined pool shapes c).points ≢ 1) chains → (t : ℕ) → ¬ IsDegenerate rs t
not_degenerate rs pool chains shapes are have placed several t d =
    let found : 1 ≤ count_by (is_one_point rs) rs = omega (arith, one_counted (is_one_point rs) rs d.record_of_it.0 (Chain t d.from d.to) d.record_of_it.1 (rw d.record_of_it.2 (eq-eqb _ _ d.one_point))) in
    let none : count_by (λ (c : ChainEntry). eqb (length (points_between c.from (pairs_of rs c.tlid) c.to)) 1) chains ≡ 0 =
    none_counted _ chains (λ k e h. ne_eqb _ _ (λ one. several k e h (ap length (joined_is rs pool shapes (get_or chains k e) have placed) ∙ one))) in
    omega (arith, found, none, are.sums (λ u from to. cond (eqb (length (points_between from (pairs_of rs u) to)) 1) 1 0) ∙ sum_by-same _ _ same rs)
  where
    same : (r : Record) → by_chain (λ u from to. cond (eqb (length (points_between from (pairs_of rs u) to)) 1) 1 0) r ≡ cond (is_one_point rs r) 1 0
    same (Chain u from to) = refl
    same (Shape u k pairs) = refl
    same other = refl

-- the records of joined chains have no fault
pub HaveNoChainFault-joined : (rs : List Record) (pool : List Point) (chains : List ChainEntry) (shapes : List ShapeEntry) → AreChainEntries rs chains → AreShapeEntries rs pool shapes → AreSound rs chains shapes → length chains ≤ CHAIN_LIMIT → All (λ c. length (joined pool shapes c).points ≢ 1) chains → segment_count (map (joined pool shapes) chains) ≤ SEGMENT_LIMIT → HaveNoChainFault rs
HaveNoChainFault-joined rs pool chains shapes are have sound room several few =
    let joined_all = are_joined rs pool chains shapes are have sound in
    record {
      once = joined_all.once;
      no_stray = joined_all.no_stray;
      in_sequence = λ t wrong. wrong (joined_all.numbered t);
      no_gap = joined_all.no_gap;
      not_degenerate = not_degenerate rs pool chains shapes are have sound.placed several;
      few_chains = λ many. omega (arith, many, chain_count_is rs chains are);
      few_segments = λ many. omega (arith, many.1, few, segments_are rs pool chains shapes are have sound.placed);
    }

-- of records whose chains can't be joined some fault of the chains is true
faulty_joined : (rs : List Record) (pool : List Point) (chains : List ChainEntry) (shapes : List ShapeEntry) → AreChainEntries rs chains → AreShapeEntries rs pool shapes → AreSound rs chains shapes → AreUnjoinable (map (joined pool shapes) chains) → ¬ HaveNoChainFault rs
faulty_joined rs pool chains shapes are have sound why none = elim why [
  | inl one ↦ let wrong = degenerate one chains refl in none.not_degenerate wrong.0 wrong.1
  | inr many ↦ none.few_segments (joined_all, omega (arith, many, segments_are rs pool chains shapes are have sound.placed))
]
  where
    joined_all : AreJoined rs
    joined_all = are_joined rs pool chains shapes are have sound

    degenerate : Any (λ c. length c.points ≡ 1) (map (joined pool shapes) chains) → (cs : List ChainEntry) → cs ≡ chains → (t : ℕ) × IsDegenerate rs t
    degenerate found [] e = let none : length (map (joined pool shapes) chains) ≡ 0 = length-map chains (joined pool shapes) ∙ ap length (sym e) in absurd (omega (arith, found.2, none))
    degenerate found (x ∷ cs) e =
        let k = found.0 in
        let long : k < length chains = omega (arith, found.2, length-map chains (joined pool shapes)) in
        let c : ChainEntry = get_or chains k x in
        let is : found.1 ≡ joined pool shapes c = sym found.3 ∙ get_or-map (joined pool shapes) chains k x found.1 long in
        let one : length (joined pool shapes c).points ≡ 1 = sym (ap (λ (d : CompleteChain). length d.points) is) ∙ found.4 in (
          c.tlid,
          record {
            once = joined_all.once c.tlid;
            numbered = joined_all.numbered c.tlid;
            no_gap = joined_all.no_gap c.tlid;
            from = c.from;
            to = c.to;
            record_of_it = are.each k x long;
            one_point = sym (ap length (joined_is rs pool shapes c have sound.placed)) ∙ one;
          },
        )

-- what the join gives is what the records have
pub built : (rs : List Record) (pool : List Point) (chains : List ChainEntry) (shapes : List ShapeEntry) (skipped : ℕ) (r : Result ChainList Unbuilt) → AreChainEntries rs chains → AreShapeEntries rs pool shapes → AreSound rs chains shapes → length chains ≤ CHAIN_LIMIT → MatchResult r (AreJoinedBy pool shapes chains skipped) (StopsFor (AreUnjoinable (map (joined pool shapes) chains))) → MatchResult r (AreBuilt rs skipped) (StopsFor (¬ HaveNoChainFault rs))
built rs pool chains shapes skipped (Ok c) are have sound room made = rw made.are (record {
  chains = AreChainsOf-joined rs pool chains shapes are have sound;
  skipped_lines = refl;
  no_fault = HaveNoChainFault-joined rs pool chains shapes are have sound room made.several made.few;
  proper = All-map (λ (x : CompleteChain). IsProperChain x.points) (joined pool shapes) chains (λ k d lt. proper_dedup (get_or chains k d).from _ (made.several k d lt));
})
built rs pool chains shapes skipped (Err stop) are have sound room why = stops_for (AreUnjoinable (map (joined pool shapes) chains)) (¬ HaveNoChainFault rs) stop (faulty_joined rs pool chains shapes are have sound) why
